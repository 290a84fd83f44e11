pub mod Explained
pub mod NodeNames
pub mod Reasons
