-- Turtle as a syntax, and the tokens of its texts.
use Rattle.std.specs.Prelude.{ℕ, List, false}
use Rattle.token_scanner.specs.Scanners.{Scanner}
use Rattle.token_scanner.specs.Items as scanned
use Rattle.token_scanner.specs.Texts as texts
use Rattle.token_scanner.specs.declared.front.Front.{Front}
use Rattle.token_scanner.specs.declared.place.Place.{Place}
use Rattle.turtle_tokens.specs.Machine.{turtle}
use Rattle.turtle_tokens.specs.Marks.{three_marks, only_by, drops}
use Rattle.turtle_tokens.specs.declared.kinds.TokenKind.{TokenKind}

-- Lines' ends are white space.
abbrev pub scanner : Scanner ℕ TokenKind
scanner = record { machine = turtle; lines = false; only = λ text. only_by (three_marks text); drops = drops }

abbrev pub Items : Type 0
Items = scanned.Items TokenKind

abbrev pub items : Place → ℕ → List ℕ → ℕ → Items
items p n chars at = scanned.items scanner p n chars at

abbrev pub items_of : scanned.Kept → List ℕ → Items
items_of k more = scanned.items_of scanner k more

abbrev pub front_items : Front TokenKind → List ℕ → ℕ → Items
front_items f chars at = scanned.front_items scanner f chars at

abbrev pub AreItems : Place → List ℕ → ℕ → Items → Type 0
AreItems p text at i = texts.AreItems scanner p text at i

abbrev pub behind : ℕ → List ℕ → ℕ → Items
behind n chars at = scanned.behind scanner n chars at
