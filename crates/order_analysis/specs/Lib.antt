pub mod Subjects
pub mod Reasons
