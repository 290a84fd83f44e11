pub mod TreeTexts
pub mod Reads
pub mod Beginnings
pub mod Grammar
pub mod TreeGrammar
pub mod LeafGrammar
pub mod Names
pub mod Parts
