mod Instants
mod Samples
mod Shapes
pub mod Soundness
