pub mod CheckPhase
pub mod Faultless
mod Places
mod EntryLemmas
mod NamingLemmas
mod SiteLemmas
mod CharLemmas
mod MeaningLemmas
mod BadCallLemmas
mod DataTypeLemmas
mod AssignmentLemmas
mod GraphLemmas
mod EdgeLemmas
mod CircleLemmas
mod PlainLemmas
mod CallLemmas
mod Counting
mod OrderLemmas
mod RuleLemmas
mod TellingLemmas
