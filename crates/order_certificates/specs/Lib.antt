pub mod Sharing
pub mod Keeping
pub mod OrderCertificates
pub mod Stages
pub mod Cycles
