pub mod Cells
pub mod FirstOfAll
pub mod Spares
pub mod View
pub mod Keeping
pub mod First
pub mod Next
pub mod Callers
