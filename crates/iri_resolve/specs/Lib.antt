pub mod Splitting
pub mod Dots
pub mod Resolution
