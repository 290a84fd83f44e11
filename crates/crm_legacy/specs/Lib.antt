pub mod Legacies
pub mod Modern
pub mod Causes
pub mod Meaning
