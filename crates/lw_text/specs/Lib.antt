pub mod Changes
pub mod Lines
pub mod Offset
pub mod Position
pub mod Starts
