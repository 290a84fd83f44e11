pub mod Counted
pub mod DatesSorted
pub mod Limits
pub mod OrderSets
pub mod Periods
