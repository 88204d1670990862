pub mod Places
pub mod Paths
pub mod Once
pub mod Tables
pub mod Unfit
pub mod Shadowing
pub mod Addresses
pub mod Relations
