pub mod Around
pub mod Dated
pub mod Moment
pub mod Pushed
