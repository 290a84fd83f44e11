-- What the machine reads at the front of a text.
use Rattle.std.specs.Prelude.{ℕ, ◌+◌, List, [], ◌∷◌, cond, nat_lt, Option, None, Some, ⊤, ◌≤◌, ◌<◌}
use Rattle.std.specs.Char.{len_utf8}
use Rattle.text_patterns.specs.Machines.{last_after}
use Rattle.token_scanner.specs.Scanners.{Scanner}
use Rattle.token_scanner.specs.declared.front.Front.{Front}
use Rattle.token_scanner.specs.declared.front.Front.TheVariants.{Token, Nothing, Long}
use Rattle.token_scanner.specs.declared.reading.Reading.{Reading}
use Rattle.token_scanner.specs.declared.reading.Stepped.{Stepped}
use Rattle.token_scanner.specs.declared.reading.Stepped.TheVariants.{On, Ended}

abbrev pub start : {State Kind : Type 0} → Scanner State Kind → Reading State Kind
start syn = record { state = syn.machine.start; last = None; count = 0; width = 0 }

abbrev pub found : {Kind : Type 0} → Option (Kind × ℕ) → Front Kind
found None = Nothing
found (Some x) = Token x.0 x.1

-- behind one more character of this width, which leads to the state
abbrev pub to : {State Kind : Type 0} → Scanner State Kind → Reading State Kind → State → ℕ → Stepped State Kind
to syn r q w = cond (nat_lt 65536 (r.width + w)) (Ended Long)
    (On (record { state = q; last = last_after (syn.machine.accepts q) r.last (r.count + 1); count = r.count + 1; width = r.width + w }))

abbrev pub by_state : {State Kind : Type 0} → Scanner State Kind → Option State → Reading State Kind → ℕ → Stepped State Kind
by_state syn None r w = Ended (found r.last)
by_state syn (Some q) r w = to syn r q w

abbrev pub step : {State Kind : Type 0} → Scanner State Kind → Reading State Kind → ℕ → Stepped State Kind
step syn r c = by_state syn (syn.machine.next r.state c) r (len_utf8 c)

-- behind n more ASCII characters that leave the state as it is
abbrev pub run_on : {State Kind : Type 0} → Reading State Kind → ℕ → Reading State Kind
run_on r n = record r { count = r.count + n; width = r.width + n }

abbrev pub goes : {State Kind A : Type 0} → Stepped State Kind → (Reading State Kind → A) → (Front Kind → A) → A
goes (On r) f g = f r
goes (Ended x) f g = g x

abbrev pub IsWithin : {Kind : Type 0} → Option (Kind × ℕ) → ℕ → Type 0
IsWithin None n = ⊤
IsWithin (Some x) n = (0 < x.1) × (x.1 ≤ n)

-- a token lies within the first n characters
abbrev pub IsCut : {Kind : Type 0} → Front Kind → ℕ → Type 0
IsCut (Token k m) n = (0 < m) × (m ≤ n)
IsCut _ n = ⊤

-- and before the last of these characters
abbrev pub IsInside : {Kind : Type 0} → Front Kind → ℕ → Type 0
IsInside (Token k m) n = (0 < m) × (m < n)
IsInside _ n = ⊤

abbrev pub InFront : {State Kind : Type 0} → Stepped State Kind → (Front Kind → Type 0) → Type 0
InFront (On r) P = ⊤
InFront (Ended x) P = P x

abbrev pub InReading : {State Kind : Type 0} → Stepped State Kind → (Reading State Kind → Type 0) → Type 0
InReading (On r) P = P r
InReading (Ended x) P = ⊤

-- what stands at the front, where a token is read so far
abbrev pub read_from : {State Kind : Type 0} → Scanner State Kind → Reading State Kind → List ℕ → Front Kind
read_from syn r [] = found r.last
read_from syn r (c ∷ chars) = goes (step syn r c) (λ q. read_from syn q chars) (λ f. f)

abbrev pub front_of : {State Kind : Type 0} → Scanner State Kind → List ℕ → Front Kind
front_of syn chars = read_from syn (start syn) chars

-- what is read, where it is no token that is dropped
abbrev pub ruled : {State Kind : Type 0} → Scanner State Kind → Front Kind → List ℕ → Front Kind
ruled syn (Token k n) text = cond (syn.drops k n text) Nothing (Token k n)
ruled syn Nothing text = Nothing
ruled syn Long text = Long

-- the token at the front
abbrev pub token_of : {State Kind : Type 0} → Scanner State Kind → List ℕ → Front Kind
token_of syn chars = ruled syn (front_of syn chars) chars

-- what stands at the front, behind what was stepped over
abbrev pub reads : {State Kind : Type 0} → Scanner State Kind → Stepped State Kind → List ℕ → Front Kind
reads syn s more = goes s (λ r. read_from syn r more) (λ f. f)
