pub mod LineBreak
pub mod Utf8
