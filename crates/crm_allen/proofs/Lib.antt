pub mod Deciding
pub mod Growing
pub mod InRange
pub mod Listed
pub mod Opening
pub mod Relating
pub mod Standing
