mod Appended
mod Matrices
mod MatrixLevels
