-- The forms of leaves.
use Rattle.std.specs.Prelude.{ℕ, Option, Some, None, List, codes}
use Rattle.certificate_trees.specs.Beginnings.{Then, Word, Either}
use Rattle.certificate_trees.specs.Grammar.{Name}

-- `oN`, and `lN` where there are `let` lines
abbrev pub OrderLeaf : Option ℕ → List ℕ → Type 0
OrderLeaf None = Name 111
OrderLeaf (Some kept) = Either (Name 111) (Name 108)

abbrev pub CoverLeaf : List ℕ → Type 0
CoverLeaf = Name 99

-- `E` or `A` and a number
abbrev pub Code : List ℕ → Type 0
Code = Either (Name 69) (Name 65)

abbrev pub ClassLeaf : List ℕ → Type 0
ClassLeaf = Then Code (Then (Word (codes ".")) Code)

-- what the leaves of a tree are
pub data LeafKind : Type 0 where
  OfOrders : Option ℕ → LeafKind
  OfCovers : LeafKind
  OfClasses : LeafKind

abbrev pub LeafOf : LeafKind → List ℕ → Type 0
LeafOf (OfOrders kept) = OrderLeaf kept
LeafOf OfCovers = CoverLeaf
LeafOf OfClasses = ClassLeaf
