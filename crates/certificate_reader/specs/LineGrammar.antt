-- The forms of lines and first lines.
use Rattle.std.specs.Prelude.{zero, suc, ℕ, Option, Some, None, List, [], codes}
use Rattle.certificate_trees.specs.Beginnings.{Then, Word, Either}
use Rattle.certificate_trees.specs.Grammar.{Number, Name, Instant}
use Rattle.certificate_trees.specs.TreeGrammar.{Tree}
use Rattle.certificate_trees.specs.LeafGrammar.{OrderLeaf, CoverLeaf, Code, ClassLeaf}

abbrev pub PositionForm : List ℕ → Type 0
PositionForm = Then Instant (Then (Word (codes "/")) Number)

-- so many positions, each behind a space
abbrev pub PositionsOf : ℕ → List ℕ → Type 0
PositionsOf zero = Word []
PositionsOf (suc n) = Then (Word (codes " ")) (Then PositionForm (PositionsOf n))

abbrev pub Positions : List ℕ → Type 0
Positions p = (n : ℕ) × PositionsOf n p

-- the rest of a line of positions, with its line feed
abbrev pub PositionsLine : List ℕ → Type 0
PositionsLine = Then Positions (Word (codes "\n"))

abbrev pub SideForm : List ℕ → Type 0
SideForm = Either (Either (Word (codes "se")) (Word (codes "ss"))) (Either (Word (codes "es")) (Word (codes "ee")))

-- two extents
abbrev pub Extents : List ℕ → Type 0
Extents = Then (Name 120) (Then (Word (codes " ")) (Name 120))

abbrev pub QuestionForm : List ℕ → Type 0
QuestionForm = Then (Name 120) (Then (Word (codes " ")) (Then (Name 120) (Then (Word (codes " ")) SideForm)))

abbrev pub OrderTree : Option ℕ → List ℕ → Type 0
OrderTree kept = Tree (OrderLeaf kept)

abbrev pub BeforeForm : Option ℕ → List ℕ → Type 0
BeforeForm kept = Then (Word (codes "lt ")) (OrderTree kept)

abbrev pub AtOrBeforeForm : Option ℕ → List ℕ → Type 0
AtOrBeforeForm kept = Then (Word (codes "le ")) (Then (OrderTree kept) (Then (Word (codes " ")) (Name 112)))

abbrev pub LackForm : List ℕ → Type 0
LackForm = Then (Word (codes "no ")) (Name 112)

abbrev pub ClaimForm : Option ℕ → List ℕ → Type 0
ClaimForm kept = Either (Either (BeforeForm kept) (AtOrBeforeForm kept)) LackForm

abbrev pub PlaceForm : List ℕ → Type 0
PlaceForm = Then (Word (codes "place")) Positions

abbrev pub PlaceLineForm : List ℕ → Type 0
PlaceLineForm = Then (Word (codes "place")) PositionsLine

abbrev pub LetForm : Option ℕ → List ℕ → Type 0
LetForm None p = ⊥
LetForm (Some kept) p = Then (Word (codes "let ")) (OrderTree (Some kept)) p

abbrev pub PairForm : Option ℕ → List ℕ → Type 0
PairForm kept = Then (Word (codes "pair ")) (Then QuestionForm (Then (Word (codes " ")) (ClaimForm kept)))

abbrev pub CycleForm : Option ℕ → List ℕ → Type 0
CycleForm kept = Then (Word (codes "cycle ")) (OrderTree kept)

-- a line of a certificate of orders, without and with its line feed
abbrev pub OrderForm : Option ℕ → List ℕ → Type 0
OrderForm kept = Either (Either PlaceForm (PairForm kept)) (Either (CycleForm kept) (Either (LetForm kept) (Word (codes "end"))))

abbrev pub OrderLineForm : Option ℕ → List ℕ → Type 0
OrderLineForm kept = Then (OrderForm kept) (Word (codes "\n"))

abbrev pub Triples : List ℕ → Type 0
Triples = Then (Name 116) (Then (Word (codes " ")) (Name 116))

abbrev pub CodePair : List ℕ → Type 0
CodePair = Then Code (Then (Word (codes " ")) Code)

-- a line of a certificate of classes, with its line feed
abbrev pub ClassLineForm : List ℕ → Type 0
ClassLineForm = Then (Word (codes "class ")) (Then Triples (Then (Word (codes " ")) (Then CodePair (Then (Word (codes " "))
    (Then (Tree ClassLeaf) (Then (Word (codes " ")) (Then (Tree ClassLeaf) (Word (codes "\n")))))))))

abbrev pub CoverForm : List ℕ → Type 0
CoverForm = Then (Word (codes "cover ")) (Then Extents (Then (Word (codes " ")) (OrderTree None)))

abbrev pub WalkForm : List ℕ → Type 0
WalkForm = Then (Word (codes "walk ")) (Then Extents (Then (Word (codes " ")) (Tree CoverLeaf)))

-- a line of a certificate of a matrix, without and with its line feed
abbrev pub MatrixForm : List ℕ → Type 0
MatrixForm = Either CoverForm (Either WalkForm (Word (codes "end")))

abbrev pub MatrixLineForm : List ℕ → Type 0
MatrixLineForm = Then MatrixForm (Word (codes "\n"))

-- a first line, with its line feed
abbrev pub HeadForm : List ℕ → Type 0
HeadForm = Either (Word (codes "crmtime 2 orders\n"))
    (Either (Word (codes "crmtime 1 classes\n")) (Either (Word (codes "crmtime 1 matrix\n")) (Word (codes "crmtime 1 orders\n"))))
