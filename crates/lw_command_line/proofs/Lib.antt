pub mod SaidLemmas
pub mod OneCommand
pub mod WordLemmas
