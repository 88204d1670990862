pub mod Faults
pub mod Links
pub mod TreeDiagnostics
pub mod Diagnostics
pub mod Laws
pub mod Worked
pub mod Apart
pub mod Order
