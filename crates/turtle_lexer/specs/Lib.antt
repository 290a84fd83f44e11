pub mod Values
pub mod Streams
pub mod Lexing
pub mod Texts
