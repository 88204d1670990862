pub mod Bytes
pub mod Members
pub mod Lists
pub mod Rows
pub mod Sorted
