pub mod Lengths
pub mod Limited
pub mod Typed
