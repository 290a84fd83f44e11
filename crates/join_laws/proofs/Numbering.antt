-- Lists without repeats that grow at the end, and the numbers that the elements of one have in another.
use Rattle.std.proofs.Common.{◌≡◌, ℕ, zero, suc, ◌+◌, ◌⊎◌, inl, inr, Bool, true, false, true≢false, ◌||◌, not, cond, Option, Some, None, List, [], ◌∷◌, ◌++◌, length, refl, sym, ap, subst, ◌∙◌, arith}
use Rattle.std.specs.Prelude.{slice_get}
use Rattle.std.specs.Cmp.{IsEquivalence}
use Rattle.std.specs.List.{list_any, position_or_len, IsDistinct, AllByRecursion}
use Rattle.std.proofs.lemmas.Bool.{or_cases, or_parts}
use Rattle.std.proofs.lemmas.List.Folds.{list_any-append}
use Rattle.std.proofs.lemmas.Map.Keys.{any_passes_from_place}
use Rattle.std.proofs.lemmas.Map.Made.{length-from_same_keys}
use Rattle.std.proofs.lemmas.Option.{slice_get_cases, slice_get_past}
use Rattle.joined_names.proofs.Renumbering.{with_new}
use Rattle.record_laws.proofs.OneWay.{same_bool}

or_false : (b : Bool) → (b || false) ≡ true → b ≡ true
or_false true h = refl
or_false false h = h

-- what passes is the new one or was there
pub any_new : {X : Type 0} (q : X → Bool) (b : Bool) (xs : List X) (y : X) → list_any q (with_new b xs y) ≡ true → (list_any q xs ≡ true) ⊎ (q y ≡ true)
any_new q true xs y h = inl h
any_new q false xs y h = elim (or_cases (list_any q xs) (list_any q (y ∷ [])) (sym (list_any-append q xs (y ∷ [])) ∙ h)) [
  | inl a ↦ inl a
  | inr b ↦ inr (or_false (q y) b)
]

all_more : {X : Type 0} (P : X → Type 0) (xs : List X) (y : X) → AllByRecursion P xs → P y → AllByRecursion P (xs ++ y ∷ [])
all_more P [] y a p = (p, tt)
all_more P (x ∷ xs) y a p = (a.0, all_more P xs y a.1 p)

module _ {X : Type 0} (e : X → X → Bool) (turned : (x y : X) → e y x ≡ false → e x y ≡ false) where
  distinct_more : (xs : List X) (y : X) → IsDistinct e xs → list_any (e y) xs ≡ false → IsDistinct e (xs ++ y ∷ [])
  unfolding IsDistinct
  distinct_more [] y d h = (tt, tt)
  distinct_more (x ∷ xs) y d h =
      let p = or_parts (e y x) (list_any (e y) xs) h in
      (all_more (λ z. e x z ≡ false) xs y d.0 (turned x y p.0), distinct_more xs y d.1 p.1)

  -- a new one leaves a list without repeats
  pub distinct_new : (xs : List X) (y : X) → IsDistinct e xs → IsDistinct e (with_new (list_any (e y) xs) xs y)
  distinct_new xs y d = by (list_any (e y) xs) refl
    where
      by : (b : Bool) → list_any (e y) xs ≡ b → IsDistinct e (with_new b xs y)
      by true h = d
      by false h = distinct_more xs y d h

-- the number of an element in another list; one that none has stays
abbrev pub moved_number : {X : Type 0} → (X → X → Bool) → List X → ℕ → Option X → ℕ
moved_number e ys n (Some x) = position_or_len (e x) ys
moved_number e ys n None = n

abbrev pub number_in : {X : Type 0} → (X → X → Bool) → List X → List X → ℕ → ℕ
number_in e xs ys n = moved_number e ys n (slice_get xs n)

all_at : {X : Type 0} (P : X → Type 0) (xs : List X) (n : ℕ) (x : X) → AllByRecursion P xs → slice_get xs n ≡ Some x → P x
all_at P [] n x a h = cc
all_at {X} P (y ∷ ys) zero x a h = let same : y ≡ x = cc in subst P same a.0
all_at P (y ∷ ys) (suc n) x a h = all_at P ys n x a.1 h

module _ {X : Type 0} (e : X → X → Bool) (self : (x : X) → e x x ≡ true) (same : (x y : X) → e x y ≡ true → x ≡ y) where
  pub turned : (x y : X) → e y x ≡ false → e x y ≡ false
  turned x y h = by (e x y) refl
    where
      by : (b : Bool) → e x y ≡ b → b ≡ false
      by true is = absurd (true≢false (sym (ap (e y) (same x y is) ∙ self y) ∙ h))
      by false is = refl

  equivalence : IsEquivalence e
  equivalence = record {
    refl = self;
    symm = λ x y. same_bool (e x y) (e y x) (λ h. ap (e y) (same x y h) ∙ self y) (λ h. ap (e x) (same y x h) ∙ self x);
    congr = λ x y z h. ap (λ (w : X). e w z) (same x y h);
  }

  found : (x : X) (xs : List X) → list_any (e x) xs ≡ true → slice_get xs (position_or_len (e x) xs) ≡ Some x
  found x [] h = absurd (true≢false (sym h))
  found x (y ∷ ys) h = by (e x y) refl h (found x ys)
    where
      by : (b : Bool) → e x y ≡ b → (b || list_any (e x) ys) ≡ true → (list_any (e x) ys ≡ true → slice_get ys (position_or_len (e x) ys) ≡ Some x)
          → slice_get (y ∷ ys) (cond (not b) (1 + position_or_len (e x) ys) 0) ≡ Some x
      by true is h rest = ap (λ (z : X). Some z) (sym (same x y is))
      by false is h rest =
          let next : suc (position_or_len (e x) ys) ≡ 1 + position_or_len (e x) ys = omega arith in
          subst (λ (k : ℕ). slice_get (y ∷ ys) k ≡ Some x) next (rest h)

  number_is : (xs : List X) (n : ℕ) (x : X) → IsDistinct e xs → slice_get xs n ≡ Some x → position_or_len (e x) xs ≡ n
  unfolding IsDistinct
  number_is [] n x d h = cc
  number_is (y ∷ ys) zero x d h =
      let here : x ≡ y = cc in
      ap (λ (b : Bool). cond (not b) (1 + position_or_len (e x) ys) 0) (ap (e x) (sym here) ∙ self x)
  number_is (y ∷ ys) (suc n) x d h =
      let rest = number_is ys n x d.1 h in
      let next : 1 + position_or_len (e x) ys ≡ suc n = omega (arith, rest) in
      ap (λ (b : Bool). cond (not b) (1 + position_or_len (e x) ys) 0) (turned x y (all_at (λ z. e y z ≡ false) ys n x d.0 h)) ∙ next

  -- one that is there has its number there
  pub number_goes : (xs ys : List X) (x : X) → list_any (e x) xs ≡ true → number_in e xs ys (position_or_len (e x) xs) ≡ position_or_len (e x) ys
  number_goes xs ys x h = ap (moved_number e ys (position_or_len (e x) xs)) (found x xs h)

  -- two lists of the same elements
  module _ (xs ys : List X) (distinct : IsDistinct e xs) (others_distinct : IsDistinct e ys)
      (there : (x : X) → list_any (e x) xs ≡ true → list_any (e x) ys ≡ true) (here : (x : X) → list_any (e x) ys ≡ true → list_any (e x) xs ≡ true) where
    pub as_long : length xs ≡ length ys
    as_long = length-from_same_keys equivalence xs ys distinct others_distinct (λ x. same_bool (list_any (e x) xs) (list_any (e x) ys) (there x) (here x))

    past_both : (n : ℕ) → slice_get xs n ≡ None → slice_get ys n ≡ None
    past_both n h = elim (slice_get_cases xs n).1 [
      | inl r ↦ (let clash : None ≡ Some r.0 = sym h ∙ r.2 in cc)
      | inr p ↦ slice_get_past ys n (omega (arith, p.0, as_long))
    ]

    -- the same element
    pub number_leads : (n : ℕ) → slice_get ys (number_in e xs ys n) ≡ slice_get xs n
    number_leads n = by (slice_get xs n) refl
      where
        by : (o : Option X) → slice_get xs n ≡ o → slice_get ys (moved_number e ys n o) ≡ o
        by (Some x) is = found x ys (there x (any_passes_from_place (e x) xs n x is (self x)))
        by None is = past_both n is

    pub number_returns : (n : ℕ) → number_in e ys xs (number_in e xs ys n) ≡ n
    number_returns n = ap (moved_number e xs (number_in e xs ys n)) (number_leads n) ∙ by (slice_get xs n) refl
      where
        by : (o : Option X) → slice_get xs n ≡ o → moved_number e xs (moved_number e ys n o) o ≡ n
        by (Some x) is = number_is xs n x distinct is
        by None is = refl
