pub mod Relations
pub mod Reports
