pub mod Viewed
pub mod Built
pub mod Looking
pub mod Spots
pub mod Gathered
