pub mod Known
pub mod Handling
pub mod Answers
pub mod Moved
pub mod Loads
pub mod Asked
pub mod Renames
pub mod Offered
