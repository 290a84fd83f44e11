pub mod Bits
pub mod Delays
pub mod Prepared
