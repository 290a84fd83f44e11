pub mod Marks
pub mod Declaring
pub mod Noting
pub mod Listing
pub mod Rows
