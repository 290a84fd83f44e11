pub mod Values
pub mod Room
pub mod Answers
