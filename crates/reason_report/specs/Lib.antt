pub mod Relations
pub mod Reason
pub mod Answers
pub mod Listings
