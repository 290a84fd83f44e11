pub mod Sets
pub mod Utf8
pub mod Steps
pub mod Escapes
pub mod Decoding
