pub mod Bytes
pub mod Fronts
pub mod Passing
pub mod Standing
pub mod Whole
