pub mod Parsers
pub mod Outcomes
pub mod Running
pub mod Marked
pub mod Deciding
pub mod Readings
