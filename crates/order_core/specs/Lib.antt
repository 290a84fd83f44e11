pub mod Sets
pub mod Sides
pub mod Primitives
