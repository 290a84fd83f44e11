-- N-Triples as a syntax, and the tokens of its texts.
use Rattle.std.specs.Prelude.{ℕ, List, None, true, false}
use Rattle.token_scanner.specs.Scanners.{Scanner}
use Rattle.token_scanner.specs.Items as scanned
use Rattle.token_scanner.specs.Texts as texts
use Rattle.token_scanner.specs.declared.front.Front.{Front}
use Rattle.token_scanner.specs.declared.place.Place.{Place}
use Rattle.ntriples_tokens.specs.Machine.{ntriples}
use Rattle.ntriples_tokens.specs.declared.kinds.Kind.{Kind}
use Rattle.ntriples_tokens.specs.declared.states.State.{State}

-- Lines' ends are tokens, and each spelling may be one.
abbrev pub scanner : Scanner State Kind
scanner = record { machine = ntriples; lines = true; only = λ text. None; drops = λ k n text. false }

abbrev pub Items : Type 0
Items = scanned.Items Kind

abbrev pub items : Place → ℕ → List ℕ → ℕ → Items
items p n chars at = scanned.items scanner p n chars at

abbrev pub AreItems : Place → List ℕ → ℕ → Items → Type 0
AreItems p text at i = texts.AreItems scanner p text at i

abbrev pub items_of : scanned.Kept → List ℕ → Items
items_of k more = scanned.items_of scanner k more

abbrev pub front_items : Front Kind → List ℕ → ℕ → Items
front_items f chars at = scanned.front_items scanner f chars at

abbrev pub behind : ℕ → List ℕ → ℕ → Items
behind n chars at = scanned.behind scanner n chars at
