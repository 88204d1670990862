pub mod ToDo
pub mod Steps
pub mod Stuck
pub mod Runs
pub mod Decided
pub mod Searching
pub mod Parsed
pub mod Tabled
pub mod Reading
pub mod Windows
mod AllHidden
mod Begun
mod Found
mod Lent
mod ReadKinds
mod SameOpened
mod TreesSoFar
