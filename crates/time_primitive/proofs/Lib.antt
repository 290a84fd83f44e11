pub mod Table
pub mod Reading
pub mod Digits
pub mod Calendar
pub mod Spelling
