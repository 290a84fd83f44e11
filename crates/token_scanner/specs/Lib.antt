pub mod Widths
pub mod Scanners
pub mod Gaps
pub mod Fronts
pub mod Items
pub mod Cutting
pub mod Texts
pub mod Rules
