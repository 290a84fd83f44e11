pub mod Names
pub mod Reports
pub mod Surveys
pub mod Texts
