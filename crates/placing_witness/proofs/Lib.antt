pub mod InRange
pub mod Numbered
pub mod RowBits
pub mod Tallied
pub mod Words
pub mod Delayed
pub mod Sharing
pub mod Final
