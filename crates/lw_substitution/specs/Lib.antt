pub mod Tokens
pub mod Growth
pub mod OneName
pub mod Places
pub mod Worked
pub mod Around
