pub mod Lengths
pub mod Certificates
pub mod Types
pub mod Verdicts
