pub mod CompiledLemmas
pub mod MadeLemmas
pub mod StartingLemmas
pub mod FirstByteLemmas
