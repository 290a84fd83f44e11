pub mod MatrixTexts
pub mod Samples
