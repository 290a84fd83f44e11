pub mod Cells
pub mod Levels
pub mod Ranks
pub mod Covers
pub mod Rows
pub mod Walks
pub mod Matrices
