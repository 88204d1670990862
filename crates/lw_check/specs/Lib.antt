pub mod Codes
pub mod Known
pub mod Sorting
pub mod Telling
