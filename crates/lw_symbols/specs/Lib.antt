pub mod Hashes
pub mod Families
pub mod Symbols
pub mod Shelves
pub mod Least
pub mod Runs
pub mod Locals
