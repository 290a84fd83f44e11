pub mod Names
pub mod Relations
pub mod Possible
