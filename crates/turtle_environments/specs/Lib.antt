pub mod Tables
pub mod Words
pub mod Blanks
pub mod Environments
pub mod Storing
