pub mod Contents
pub mod Owners
pub mod Standing
pub mod Built
pub mod Steps
pub mod Finishing
pub mod Tables
pub mod Renaming
