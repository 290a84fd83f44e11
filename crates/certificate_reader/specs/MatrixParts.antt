-- The parts of the lines of a matrix.
use Rattle.std.specs.Prelude.{ℕ, None, codes}
use Rattle.certificate_trees.specs.TreeTexts.{shared_leaf, cover_leaf}
use Rattle.certificate_trees.specs.Names.{bad_shared, bad_cover}
use Rattle.certificate_trees.specs.Parts.{Part, word_part, name_part, tree_part, both_parts}
use Rattle.certificate_reader.specs.declared.matrix_lines.Counts.{Counts}
use Rattle.certificate_reader.specs.declared.matrix_lines.Cover.{Cover as ExtentPair}
use Rattle.certificate_reader.specs.declared.matrix_lines.MatrixLine.{MatrixLine}
use Rattle.certificate_reader.specs.declared.matrix_lines.MatrixLine.TheVariants.{Cover, Walk, End}

-- two of so many extents
abbrev pub extents_part : ℕ → ExtentPair → Part
extents_part extents p = both_parts (name_part 120 extents p.first) (both_parts (word_part (codes " ")) (name_part 120 extents p.second))

-- a line without its line feed
abbrev pub matrix_line_part : Counts → MatrixLine → Part
matrix_line_part known (Cover p x) = both_parts (word_part (codes "cover ")) (both_parts (extents_part known.extents p)
    (both_parts (word_part (codes " ")) (tree_part shared_leaf (bad_shared known.orders None) x)))
matrix_line_part known (Walk p x) = both_parts (word_part (codes "walk ")) (both_parts (extents_part known.extents p)
    (both_parts (word_part (codes " ")) (tree_part cover_leaf (bad_cover known.covers) x)))
matrix_line_part known End = word_part (codes "end")
