pub mod Begun
pub mod Feeding
pub mod Saying
pub mod Texts
