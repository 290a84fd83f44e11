pub mod BlankNames
pub mod Within
