pub mod Counting
pub mod Masks
pub mod FirstBreak
pub mod Texts
