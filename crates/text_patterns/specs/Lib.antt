pub mod Patterns
pub mod Derivatives
pub mod Machines
pub mod Tables
