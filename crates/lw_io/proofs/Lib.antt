pub mod Faults
pub mod Kept
pub mod Last
pub mod Refusing
mod Escaped
mod RoundTrip
mod WrittenPaths
