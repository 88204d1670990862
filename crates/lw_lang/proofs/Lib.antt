mod Cutting
pub mod JudgeLemmas
pub mod CutPlaces
pub mod ReadLemmas
pub mod ParsedLemmas
pub mod ParserLemmas
pub mod Lists
pub mod BuildLemmas
pub mod FirstPlaces
pub mod ToldPlaces
pub mod ToldLemmas
pub mod CompileLemmas
pub mod ChoicePlaces
pub mod LookLemmas
pub mod Supplied
pub mod ToldEnds
pub mod OneWay
pub mod Spans
pub mod Places
mod Telling
