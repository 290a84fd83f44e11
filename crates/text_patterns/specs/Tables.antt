-- A machine whose steps are those of classes of characters, and the tests that make it right, each of which is computed.
use Rattle.std.specs.Prelude.{ℕ, List, [], ◌≡◌, ◌<◌, length, Bool, true, false, cond, ◌&&◌, ◌||◌, ◌==◌, nat_lt, Option, None, Some}
use mathlib.Core.Bool.{beq}
use Rattle.text_patterns.specs.Patterns.{Pattern}
use Rattle.text_patterns.specs.Patterns.Pattern.{Never}
use Rattle.text_patterns.specs.Derivatives.{nullable, derivative, after, alike, is_shut, SameIn}
use Rattle.text_patterns.specs.Machines.{Machine}

-- `sample` is a character of the class; `way`, a text that leads to the state; `way_on`, a text that leads from it to the end
-- of a spelling of the kind `towards`; `index` numbers the kinds.
pub record Table (State Kind Class : Type 0) : Type 0 where
  pub start : State
  pub next : State → Class → Option State
  pub accepts : State → Option Kind
  pub is_final : State → Bool
  pub spelling : Kind → Pattern
  pub class_at : ℕ → Class
  pub sample : Class → ℕ
  pub way : State → List ℕ
  pub way_on : State → List ℕ
  pub towards : State → Kind
  pub index : Kind → ℕ

abbrev pub rest_of : {State Kind Class : Type 0} → Table State Kind Class → State → Kind → Pattern
rest_of t q k = after (t.spelling k) (t.way q)

abbrev pub rest_of_option : {State Kind Class : Type 0} → Table State Kind Class → Option State → Kind → Pattern
rest_of_option t None k = Never
rest_of_option t (Some q) k = rest_of t q k

abbrev pub machine : {State Kind Class : Type 0} → Table State Kind Class → Machine State Kind
machine t = record {
  start = t.start;
  next = λ q c. t.next q (t.class_at c);
  accepts = t.accepts;
  is_final = t.is_final;
  spelling = t.spelling;
  rest = rest_of t;
}

-- What a kind wants behind a character of the class is what it wants in the next state.
abbrev pub fits : {State Kind Class : Type 0} → Table State Kind Class → State → Class → Kind → Bool
fits t q c k = alike (derivative (rest_of t q k) (t.sample c)) (rest_of_option t (t.next q c) k)

abbrev pub is_indexed : {Kind : Type 0} → (Kind → ℕ) → Option Kind → ℕ → Bool
is_indexed index None n = false
is_indexed index (Some k) n = index k == n

-- The kind ends in the state exactly where the state accepts it.
abbrev pub ends_at : {State Kind Class : Type 0} → Table State Kind Class → State → Kind → Bool
ends_at t q k = beq (nullable (rest_of t q k)) (is_indexed t.index (t.accepts q) (t.index k))

-- In a final state the kind wants no more.
abbrev pub shuts_at : {State Kind Class : Type 0} → Table State Kind Class → State → Kind → Bool
shuts_at t q k = cond (t.is_final q) (is_shut (rest_of t q k)) true

-- From the state some kind is spelled, in another state than a final one by more characters.
abbrev pub goes_at : {State Kind Class : Type 0} → Table State Kind Class → State → Bool
goes_at t q = (t.is_final q || nat_lt 0 (length (t.way_on q))) && nullable (after (rest_of t q (t.towards q)) (t.way_on q))

pub record IsTable {State Kind Class : Type 0} (t : Table State Kind Class) : Type 0 where
  pub starts : t.way t.start ≡ []
  pub sampled : (k : Kind) (c : ℕ) → c < 0x110000 → SameIn (t.spelling k) c (t.sample (t.class_at c))
  pub fitting : (q : State) (c : Class) (k : Kind) → fits t q c k ≡ true
  pub ending : (q : State) (k : Kind) → ends_at t q k ≡ true
  pub shutting : (q : State) (k : Kind) → shuts_at t q k ≡ true
  pub going : (q : State) → goes_at t q ≡ true
  pub apart : (j k : Kind) → t.index j ≡ t.index k → j ≡ k
