pub mod Completed
