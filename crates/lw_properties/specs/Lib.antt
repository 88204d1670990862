pub mod Search
pub mod Known
pub mod Kinds
pub mod Typed
pub mod Places
pub mod Asked
pub mod Told
pub mod Mixing
