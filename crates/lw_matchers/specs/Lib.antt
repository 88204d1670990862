pub mod Compiled
pub mod TokenKinds
pub mod Made
pub mod Starting
