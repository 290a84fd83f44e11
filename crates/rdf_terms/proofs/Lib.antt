pub mod FittingLemmas
pub mod Held
pub mod Numbered
pub mod TermLemmas
