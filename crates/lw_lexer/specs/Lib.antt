pub mod Longer
pub mod Place
pub mod TokenPlaces
pub mod Fronts
pub mod Known
pub mod Recut
pub mod Seams
