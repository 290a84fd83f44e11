pub mod BlankNames
pub mod Naming
