pub mod Ending
pub mod Growth
pub mod Order
pub mod Walks
pub mod Within
