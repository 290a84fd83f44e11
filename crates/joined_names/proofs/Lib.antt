pub mod Renumbering
pub mod Tables
