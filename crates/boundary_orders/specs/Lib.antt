pub mod Statements
pub mod Extents
pub mod Orders
pub mod Numbering
pub mod Dossiers
