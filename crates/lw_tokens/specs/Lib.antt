pub mod Patterns
pub mod Matching
pub mod Keywords
pub mod Lexicon
pub mod NextToken
pub mod Cut
