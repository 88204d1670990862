pub mod OneCut
pub mod OnePattern
