pub mod Documents
pub mod Least
pub mod Table
pub mod Knockout
pub mod Kept
