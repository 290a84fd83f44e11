-- A machine that reads the spellings of several kinds at once, and what it finds at the front of a text.
use Rattle.std.specs.Prelude.{ℕ, List, [], ◌∷◌, ◌++◌, ◌≡◌, ◌<◌, ◌≤◌, take, length, Bool, true, false, Option, None, Some}
use Rattle.text_patterns.specs.Patterns.{Pattern, Matches}
use Rattle.text_patterns.specs.Patterns.Pattern.{Never}

-- `rest` says what a kind still wants in a state; `is_final`, that no spelling goes on behind it.
pub record Machine (State Kind : Type 0) : Type 0 where
  pub start : State
  pub next : State → ℕ → Option State
  pub accepts : State → Option Kind
  pub is_final : State → Bool
  pub spelling : Kind → Pattern
  pub rest : State → Kind → Pattern

abbrev pub rest_after : {State Kind : Type 0} → Machine State Kind → Option State → Kind → Pattern
rest_after m None k = Never
rest_after m (Some q) k = m.rest q k

-- The steps of the machine are those of its spellings, over characters below 110000.
pub record IsMachine {State Kind : Type 0} (m : Machine State Kind) : Type 0 where
  pub starts : (k : Kind) → m.rest m.start k ≡ m.spelling k
  pub step_to : (q : State) (c : ℕ) (k : Kind) (s : List ℕ) → c < 0x110000 → Matches (m.rest q k) (c ∷ s) → Matches (rest_after m (m.next q c) k) s
  pub step_from : (q : State) (c : ℕ) (k : Kind) (s : List ℕ) → c < 0x110000 → Matches (rest_after m (m.next q c) k) s → Matches (m.rest q k) (c ∷ s)
  pub ends : (q : State) (k : Kind) → m.accepts q ≡ Some k → Matches (m.rest q k) []
  pub ends_alone : (q : State) (k : Kind) → Matches (m.rest q k) [] → m.accepts q ≡ Some k
  pub shut : (q : State) → m.is_final q ≡ true → (k : Kind) (s : List ℕ) → Matches (m.rest q k) s → s ≡ []
  pub goes_on : (q : State) → m.is_final q ≡ false → (k : Kind) × (s : List ℕ) × (0 < length s) × Matches (m.rest q k) s
  pub alive : (q : State) → (k : Kind) × (s : List ℕ) × Matches (m.rest q k) s

abbrev pub Spells : {State Kind : Type 0} → Machine State Kind → Kind → List ℕ → Type 0
Spells m k s = Matches (m.spelling k) s

-- The first n characters of the text spell the kind, and no longer front of the text spells any.
pub record IsFirst {State Kind : Type 0} (m : Machine State Kind) (text : List ℕ) (kind : Kind) (n : ℕ) : Type 0 where
  pub some : 0 < n
  pub in_text : n ≤ length text
  pub spelled : Spells m kind (take n text)
  pub longest : (j : Kind) (i : ℕ) → i ≤ length text → Spells m j (take i text) → i ≤ n

-- No front of the text spells a kind.
abbrev pub HasNone : {State Kind : Type 0} → Machine State Kind → List ℕ → Type 0
HasNone {State} {Kind} m text = (j : Kind) (i : ℕ) → i ≤ length text → Spells m j (take i text) → ⊥

-- The text is a proper front of a spelling.
abbrev pub IsOpen : {State Kind : Type 0} → Machine State Kind → List ℕ → Type 0
IsOpen {State} {Kind} m text = (k : Kind) × (more : List ℕ) × (0 < length more) × Spells m k (text ++ more)

-- What is found at the front of a text, however the text goes on.
abbrev pub Settles : {State Kind : Type 0} → Machine State Kind → Option (Kind × ℕ) → List ℕ → Type 0
Settles m None text = (more : List ℕ) → HasNone m (text ++ more)
Settles m (Some x) text = (more : List ℕ) → IsFirst m (text ++ more) x.0 x.1

abbrev pub NoneIn : {State Kind : Type 0} → Machine State Kind → List ℕ → ℕ → ℕ → Type 0
NoneIn {State} {Kind} m text low high = (k : Kind) (i : ℕ) → low < i → i ≤ high → Spells m k (take i text) → ⊥

-- The longest front of the first i characters that spells a kind.
abbrev pub IsLast : {State Kind : Type 0} → Machine State Kind → List ℕ → ℕ → Option (Kind × ℕ) → Type 0
IsLast m text i None = NoneIn m text 0 i
IsLast m text i (Some x) = (0 < x.1) × (x.1 ≤ i) × Spells m x.0 (take x.1 text) × NoneIn m text x.1 i

abbrev pub last_after : {Kind : Type 0} → Option Kind → Option (Kind × ℕ) → ℕ → Option (Kind × ℕ)
last_after None last n = last
last_after (Some k) last n = Some (k, n)

-- The machine has read the first i characters of the text, stands in the state, and knows the longest spelling among them.
pub record Reads {State Kind : Type 0} (m : Machine State Kind) (text : List ℕ) (i : ℕ) (q : State) (last : Option (Kind × ℕ)) : Type 0 where
  pub leads : (k : Kind) (t : List ℕ) → Spells m k (take i text ++ t) → Matches (m.rest q k) t
  pub back : (k : Kind) (t : List ℕ) → Matches (m.rest q k) t → Spells m k (take i text ++ t)
  pub ending : IsLast m text i last
