pub mod Alike
pub mod Barren
pub mod Derivatives
pub mod Engine
pub mod Spans
pub mod Steps
