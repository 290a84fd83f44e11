-- The texts of the lines of a certificate of a matrix.
use Rattle.std.specs.Prelude.{◌<◌, ℕ, List, ◌++◌, codes}
use Rattle.std.specs.Fmt.{decimal}
use Rattle.certificate_reader.specs.declared.matrix_lines.Cover.{Cover as ExtentPair}
use Rattle.certificate_reader.specs.declared.matrix_lines.MatrixLine.{MatrixLine}
use Rattle.certificate_reader.specs.declared.matrix_lines.MatrixLine.TheVariants.{Cover, Walk, End}
use Rattle.proof_core.specs.Proofs.{node_count}
use Rattle.certificate_trees.specs.TreeTexts.{shared_leaf, cover_leaf, tree_bytes}

-- two extents
abbrev pub extents_text : ExtentPair → List ℕ
extents_text p = (codes "x" ++ decimal p.first) ++ (codes " " ++ (codes "x" ++ decimal p.second))

-- a line without its line feed
abbrev pub matrix_line_text : MatrixLine → List ℕ
matrix_line_text (Cover p x) = codes "cover " ++ (extents_text p ++ (codes " " ++ tree_bytes shared_leaf x))
matrix_line_text (Walk p x) = codes "walk " ++ (extents_text p ++ (codes " " ++ tree_bytes cover_leaf x))
matrix_line_text End = codes "end"

-- how many nodes its tree has
abbrev pub matrix_line_nodes : MatrixLine → ℕ
matrix_line_nodes (Cover p x) = node_count x
matrix_line_nodes (Walk p x) = node_count x
matrix_line_nodes End = 0

-- its extents are below a count
abbrev pub HasExtents : ℕ → MatrixLine → Type 0
HasExtents extents (Cover p x) = (p.first < extents) × (p.second < extents)
HasExtents extents (Walk p x) = (p.first < extents) × (p.second < extents)
HasExtents extents End = Unit {0}
