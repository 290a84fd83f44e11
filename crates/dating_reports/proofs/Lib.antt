pub mod Each
pub mod Cycles
pub mod Instants
pub mod Telling
