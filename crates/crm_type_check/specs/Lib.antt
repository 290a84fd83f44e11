pub mod Meaning
pub mod Faults
pub mod Relations
pub mod Index
