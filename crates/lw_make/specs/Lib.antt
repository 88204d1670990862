pub mod Made
pub mod Making
pub mod Summaries
pub mod Unedited
pub mod Counting
