mod Edges
mod EndLemmas
mod Flags
mod Growing
mod Spreading
pub mod WalkLemmas
