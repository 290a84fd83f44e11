pub mod Headline
pub mod Joins
pub mod Outcomes
pub mod Report
pub mod Runs
