pub mod Making
pub mod Shares
pub mod Kept
pub mod Tables
pub mod Ends
pub mod Going
