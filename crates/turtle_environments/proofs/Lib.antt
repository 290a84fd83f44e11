pub mod Schemes
pub mod Tables
