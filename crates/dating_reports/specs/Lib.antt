pub mod Bounds
pub mod When
pub mod Headlines
