pub mod Rows
pub mod Keys
pub mod Looked
pub mod Led
pub mod Named
pub mod Putting
pub mod Meant
pub mod Mentioned
