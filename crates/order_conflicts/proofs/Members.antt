-- What passes a test among the items of a list.
use Rattle.std.proofs.Common.{zero, suc, ◌≡◌, ℕ, List, [], ◌∷◌, Bool, true, ◌+◌, ◌<◌, map, arith, inl, inr, refl, subst, ap, sym}
use Rattle.std.specs.List.{Contains, filter, range_with_len}
use Rattle.std.proofs.lemmas.Bool.{cases_Bool}
use Rattle.order_laws.specs.declared.Point.{Point}
use Rattle.order_laws.specs.Tables.{IsPoint, all_points}
use Rattle.order_laws.proofs.Built.{Among}
use Rattle.order_laws.proofs.Members.{in_range, all_among}

module _ {X : Type 0} where
  pub contains_first : (x : X) (xs : List X) → Contains (x ∷ xs) x
  contains_first x xs = (0, omega arith, refl)

  pub contains_later : (y x : X) (xs : List X) → Contains xs x → Contains (y ∷ xs) x
  contains_later y x xs c = (suc c.0, omega (arith, c.1), c.2)

  pub passes_among : (p : X → Bool) (xs : List X) (x : X) → Contains xs x → p x ≡ true → Contains (filter p xs) x
  passes_among p [] x c e = absurd (omega (arith, c.1))
  passes_among p (y ∷ ys) x (zero, h, c) e =
      let P : X → Type 0 = λ z. Contains (filter p (z ∷ ys)) x in
      subst P (sym c) (rw e (contains_first x (filter p ys)))
  passes_among p (y ∷ ys) x (suc k, h, c) e =
      let rest : Contains (filter p ys) x = passes_among p ys x (k, omega (arith, h), c) e in
      elim (cases_Bool (p y)) [
        | inl holds ↦ rw holds (contains_later y x (filter p ys) rest)
        | inr other ↦ rw other rest
      ]

  -- an item of the list that passes
  pub record Passes (p : X → Bool) (xs : List X) (x : X) : Type 0 where
    pub among : Contains xs x
    pub passes : p x ≡ true

  passes_first : (p : X → Bool) (y : X) (ys : List X) (x : X) → p y ≡ true → Contains (y ∷ filter p ys) x → (Contains (filter p ys) x → Passes p ys x) → Passes p (y ∷ ys) x
  passes_first p y ys x holds (zero, h, c) rest =
      let P : X → Type 0 = λ z. p z ≡ true in
      record { among = (0, omega arith, c); passes = subst P c holds }
  passes_first p y ys x holds (suc k, h, c) rest =
      let old : Passes p ys x = rest (k, omega (arith, h), c) in
      record { among = contains_later y x ys old.among; passes = old.passes }

  pub among_passing : (p : X → Bool) (xs : List X) (x : X) → Contains (filter p xs) x → Passes p xs x
  among_passing p [] x c = absurd (omega (arith, c.1))
  among_passing p (y ∷ ys) x c =
      elim (cases_Bool (p y)) [
        | inl holds ↦ passes_first p y ys x holds (rw holds at c) (among_passing p ys x)
        | inr other ↦ (let old : Passes p ys x = among_passing p ys x (rw other at c) in
            record { among = contains_later y x ys old.among; passes = old.passes })
      ]

module _ {X Y : Type 0} (f : X → Y) where
  pub contains_mapped : (xs : List X) (x : X) → Contains xs x → Contains (map f xs) (f x)
  contains_mapped [] x c = absurd (omega (arith, c.1))
  contains_mapped (y ∷ ys) x (zero, h, c) = (0, omega arith, ap f c)
  contains_mapped (y ∷ ys) x (suc k, h, c) = contains_later (f y) (f x) (map f ys) (contains_mapped ys x (k, omega (arith, h), c))

  -- an item that is mapped to a value
  pub record Source (xs : List X) (y : Y) : Type 0 where
    pub item : X
    pub among : Contains xs item
    pub same : f item ≡ y

  pub source : (xs : List X) (y : Y) → Contains (map f xs) y → Source xs y
  source [] y c = absurd (omega (arith, c.1))
  source (x ∷ xs) y (zero, h, c) = record { item = x; among = contains_first x xs; same = c }
  source (x ∷ xs) y (suc k, h, c) =
      let old : Source xs y = source xs y (k, omega (arith, h), c) in
      record { item = old.item; among = contains_later x old.item xs old.among; same = old.same }

among_of : (xs : List Point) (x : Point) → Contains xs x → Among x xs
among_of [] x c = absurd (omega (arith, c.1))
among_of (y ∷ ys) x (zero, h, c) = inl (sym c)
among_of (y ∷ ys) x (suc k, h, c) = inr (among_of ys x (k, omega (arith, h), c))

of_among : (xs : List Point) (x : Point) → Among x xs → Contains xs x
of_among [] x a = absurd a
of_among (y ∷ ys) x (inl e) = (0, omega arith, sym e)
of_among (y ∷ ys) x (inr a) = contains_later y x ys (of_among ys x a)

pub point_among : (e d : ℕ) (x : Point) → IsPoint e d x → Contains (all_points e d) x
point_among e d x h = of_among (all_points e d) x (all_among e d x h)

pub among_points : (e d : ℕ) (x : Point) → Contains (all_points e d) x → IsPoint e d x
among_points e d x c = in_range e d x (among_of (all_points e d) x c)

range_has : (n a k : ℕ) → k < n → Contains (range_with_len a n) (a + k)
range_has zero a k h = absurd (omega arith)
range_has (suc n) a zero h = (0, omega arith, omega arith)
range_has (suc n) a (suc k) h =
    let P : ℕ → Type 0 = λ z. Contains (range_with_len a (suc n)) z in
    let same : a + 1 + k ≡ a + suc k = omega arith in
    subst P same (contains_later a (a + 1 + k) (range_with_len (a + 1) n) (range_has n (a + 1) k (omega arith)))

pub number_among : (n k : ℕ) → k < n → Contains (range_with_len 0 n) k
number_among n k h =
    let same : 0 + k ≡ k = omega arith in
    let P : ℕ → Type 0 = λ z. Contains (range_with_len 0 n) z in
    subst P same (range_has n 0 k h)

range_below : (n a x : ℕ) → Contains (range_with_len a n) x → x < a + n
range_below zero a x c = absurd (omega (arith, c.1))
range_below (suc n) a x (zero, h, c) = omega (arith, c)
range_below (suc n) a x (suc k, h, c) = omega (arith, range_below n (a + 1) x (k, omega (arith, h), c))

pub among_numbers : (n k : ℕ) → Contains (range_with_len 0 n) k → k < n
among_numbers n k c = omega (arith, range_below n 0 k c)
