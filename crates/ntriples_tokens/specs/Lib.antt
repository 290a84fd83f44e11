pub mod Terminals
pub mod Steps
pub mod Machine
pub mod Scanning
pub mod Lists
pub mod Sampled
pub mod Tested
pub mod ScannerLaws
