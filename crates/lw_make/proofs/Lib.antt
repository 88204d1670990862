mod Addresses
mod Behind
mod Lengths
mod States
pub mod Putting
pub mod Editing
pub mod OneSummary
pub mod Counting
pub mod Standing
