pub mod ClassTexts
pub mod OrderTexts
pub mod MatrixTexts
pub mod HeadTexts
pub mod LineGrammar
pub mod OrderParts
pub mod MatrixParts
