pub mod MatrixStages
