pub mod Forms
pub mod Machine
pub mod Parts
pub mod Dates
