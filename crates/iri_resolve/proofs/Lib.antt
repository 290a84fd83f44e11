pub mod Removal
pub mod Whole
