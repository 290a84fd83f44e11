pub mod ClassNumbers
pub mod Table
pub mod PropertyNumbers
pub mod Names
pub mod Index
