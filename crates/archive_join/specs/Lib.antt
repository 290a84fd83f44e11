pub mod Archives
pub mod Joining
pub mod Limits
pub mod Refusals
