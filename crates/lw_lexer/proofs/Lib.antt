pub mod KeywordLemmas
pub mod KnownLemmas
pub mod NextLemmas
pub mod TerminalLemmas
pub mod EndLemmas
pub mod FrontLemmas
mod Automata
pub mod Behind
mod FrontEnds
mod SameTokens
mod Seaming
