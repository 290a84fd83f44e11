pub mod Machine
pub mod Tokens
pub mod Grammar
pub mod Runs
