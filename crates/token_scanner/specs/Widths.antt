-- How many bytes characters take.
use Rattle.std.specs.Prelude.{ℕ, ◌+◌, List, [], ◌∷◌}
use Rattle.std.specs.Char.{len_utf8}

abbrev pub width : List ℕ → ℕ
width [] = 0
width (c ∷ chars) = len_utf8 c + width chars
