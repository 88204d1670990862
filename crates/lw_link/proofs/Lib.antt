pub mod Entered
pub mod Linked
pub mod Known
pub mod RootLemmas
pub mod NamesSorted
pub mod PutLevels
pub mod Leading
pub mod Reached
