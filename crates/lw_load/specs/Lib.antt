pub mod Paths
pub mod Loading
pub mod LoadFaults
pub mod Standing
pub mod Opening
pub mod Walking
pub mod FilledChoices
