-- The texts of tokens, as bytes.
use Rattle.std.specs.Prelude.{ℕ, List, drop, map}
use Rattle.std.specs.Char.{to_ascii_lowercase}
use lib.Utf8.{encodes}
use Rattle.rdf_reading.specs.Values.{unescaped, inside}

-- of an IRI or a string
abbrev pub value_text : List ℕ → List ℕ
value_text chars = encodes (unescaped (inside 1 chars))

-- of a blank node's label
abbrev pub label_text : List ℕ → List ℕ
label_text chars = encodes (drop 2 chars)

-- of a language tag
abbrev pub tag_text : List ℕ → List ℕ
tag_text chars = encodes (map to_ascii_lowercase (drop 1 chars))
