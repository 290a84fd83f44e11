-- What makes a syntax right: its machine reads the spellings, and what is dropped is no token.
use Rattle.std.specs.Prelude.{ℕ, ◌≡◌, ◌≤◌, ◌<◌, List, ◌++◌, length, true, false, None}
use Rattle.text_patterns.specs.Machines.{IsMachine, IsFirst, HasNone}
use Rattle.token_scanner.specs.Scanners.{Scanner}
use Rattle.token_scanner.specs.Fronts.{ruled}
use Rattle.token_scanner.specs.Cutting.{Leads}
use Rattle.token_scanner.specs.Texts.{IsToken, HasNoToken, IsTooLong}
use Rattle.token_scanner.specs.declared.front.Front.{Front}
use Rattle.token_scanner.specs.declared.front.Front.TheVariants.{Token, Nothing, Long}

-- what the machine reads at the front of a text: its longest spelling
abbrev pub Right : {State Kind : Type 0} → Scanner State Kind → Front Kind → List ℕ → Type 0
Right syn (Token k n) text = IsFirst syn.machine text k n × (IsTooLong syn text → ⊥)
Right syn Nothing text = HasNone syn.machine text × (IsTooLong syn text → ⊥)
Right syn Long text = IsTooLong syn text

-- what stands at the front of a text: its token
abbrev pub Ruled : {State Kind : Type 0} → Scanner State Kind → Front Kind → List ℕ → Type 0
Ruled syn (Token k n) text = IsToken syn text k n × (IsTooLong syn text → ⊥)
Ruled syn Nothing text = HasNoToken syn text × (IsTooLong syn text → ⊥)
Ruled syn Long text = IsTooLong syn text

-- What is dropped is known from the characters up to the end of the token and one more, or from a state behind which no token goes on.
pub record IsScanner {State Kind : Type 0} (syn : Scanner State Kind) : Type 0 where
  pub machine : IsMachine syn.machine
  pub begins : syn.machine.accepts syn.machine.start ≡ None
  pub opens : syn.machine.is_final syn.machine.start ≡ false
  pub stuck : (q : State) (c : ℕ) → syn.machine.is_final q ≡ true → syn.machine.next q c ≡ None
  pub rules : (f : Front Kind) (text : List ℕ) → Right syn f text → Ruled syn (ruled syn f text) text
  pub inside : (k : Kind) (n : ℕ) (chars more : List ℕ) → n < length chars → syn.drops k n (chars ++ more) ≡ syn.drops k n chars
  pub final : (k : Kind) (n : ℕ) (chars more : List ℕ) (q : State) → n ≤ length chars → Leads syn q chars → syn.machine.is_final q ≡ true
      → syn.drops k n (chars ++ more) ≡ syn.drops k n chars
