pub mod Symbols
pub mod FileTokens
pub mod FileCut
pub mod Values
pub mod Places
