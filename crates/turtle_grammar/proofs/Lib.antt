pub mod Rests
pub mod Backs
pub mod Whole
pub mod Unique
