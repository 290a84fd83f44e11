pub mod Tree
pub mod Counts
pub mod Routes
pub mod Ends
