-- What a cutter keeps beside the characters.
use Rattle.std.specs.Prelude.{ℕ, ◌≡◌, ◌≤◌, ◌+◌, List, ◌++◌, drop, take, length, ⊤}
use Rattle.text_patterns.specs.Patterns.{Matches}
use Rattle.text_patterns.specs.Machines.{Spells}
use Rattle.token_scanner.specs.Scanners.{Scanner}
use Rattle.token_scanner.specs.declared.reading.Reading.{Reading}
use Rattle.token_scanner.specs.Fronts.{read_from, front_of, IsWithin, IsCut}
use Rattle.token_scanner.specs.declared.front.Front.{Front}
use Rattle.token_scanner.specs.declared.front.Front.TheVariants.{Token}
use Rattle.token_scanner.specs.Widths.{width}

-- What completes the characters to a spelling is what the state still wants.
pub record Leads {State Kind : Type 0} (syn : Scanner State Kind) (q : State) (done : List ℕ) : Type 0 where
  pub to : (k : Kind) (t : List ℕ) → Spells syn.machine k (done ++ t) → Matches (syn.machine.rest q k) t
  pub back : (k : Kind) (t : List ℕ) → Matches (syn.machine.rest q k) t → Spells syn.machine k (done ++ t)

-- The token lies among the characters that were read before, of this count and width, and some of these, which are together no wider than a token may be.
pub record IsRead {Kind : Type 0} (f : Front Kind) (count wide : ℕ) (chars : List ℕ) : Type 0 where
  pub some : ℕ
  pub in_chars : some ≤ length chars
  pub cut : IsCut f (count + some)
  pub narrow : wide + width (take some chars) ≤ 65536

-- a token is no wider than it may be
abbrev pub IsNarrow : {Kind : Type 0} → Front Kind → List ℕ → Type 0
IsNarrow (Token k n) chars = width (take n chars) ≤ 65536
IsNarrow _ chars = ⊤

-- the reading stands for the first of the characters
pub record IsReading {State Kind : Type 0} (syn : Scanner State Kind) (chars : List ℕ) (r : Reading State Kind) : Type 0 where
  pub count : r.count ≤ length chars
  pub narrow : r.width ≤ 65536
  pub width : r.width ≡ width (take r.count chars)
  pub last : IsWithin r.last r.count
  pub leads : Leads syn r.state (take r.count chars)
  pub reads : (more : List ℕ) → front_of syn (chars ++ more) ≡ read_from syn r (drop r.count chars ++ more)
