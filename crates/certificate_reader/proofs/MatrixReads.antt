-- The parts of a line of a matrix are its text, and have its nodes.
use Rattle.std.proofs.Common.{arith, ◌≡◌, ℕ, List, [], ◌∷◌, ◌++◌, refl, subst}
use Rattle.certificate_trees.specs.Reads.{IsRead}
use Rattle.certificate_reader.specs.declared.matrix_lines.Counts.{Counts}
use Rattle.certificate_reader.specs.declared.matrix_lines.MatrixLine.{MatrixLine}
use Rattle.certificate_reader.specs.declared.matrix_lines.MatrixLine.TheVariants.{Cover, Walk, End}
use Rattle.certificate_reader.specs.MatrixTexts.{matrix_line_text, matrix_line_nodes}
use Rattle.certificate_reader.specs.MatrixParts.{matrix_line_part}

line_bytes : (known : Counts) (l : MatrixLine) → (matrix_line_part known l).bytes ≡ matrix_line_text l
line_bytes known (Cover p x) = refl
line_bytes known (Walk p x) = refl
line_bytes known End = refl

pub line_nodes : (known : Counts) (l : MatrixLine) → (matrix_line_part known l).nodes ≡ matrix_line_nodes l
line_nodes known (Cover p x) = omega arith
line_nodes known (Walk p x) = omega arith
line_nodes known End = omega arith

pub line_read : (known : Counts) (l : MatrixLine) (text : List ℕ) (at to : ℕ) → IsRead text at to ((matrix_line_part known l).bytes ++ 10 ∷ []) → IsRead text at to (matrix_line_text l ++ 10 ∷ [])
line_read known l text at to read = let P : List ℕ → Type 0 = λ z. IsRead text at to (z ++ 10 ∷ []) in subst P (line_bytes known l) read
