-- The covers of a cell, by striking what a cover already leads to.
use Rattle.std.proofs.Common.{arith, zero, suc, ◌≡◌, ◌≢◌, ◌<◌, ◌+◌, ◌⊎◌, inl, inr, ℕ, Bool, true, false, cond, List, length, get_or, set, refl, sym, ap, subst, ◌∙◌, get_or-set_other, get_or-set_same}
use Rattle.std.specs.Prelude.{◌&&◌, ◌||◌, not}
use Rattle.std.proofs.lemmas.Bool.{cases_Bool, cases_eq, true≢false}
use Rattle.harris_matrix.specs.Covers.{some_below, covers, is_direct}
use Rattle.harris_matrix.specs.Levels.{IsOrdering}
use Rattle.harris_matrix.specs.Rows.{IsStrictOrder}
use Rattle.harris_matrix.proofs.Levelling.{behind}

pub both : (a b : Bool) → (a && b) ≡ true → (a ≡ true) × (b ≡ true)
both true true e = (refl, refl)
both true false e = absurd (cc e)
both false b e = absurd (cc e)

pub and_true : (a b : Bool) → a ≡ true → b ≡ true → (a && b) ≡ true
and_true true true e f = refl
and_true true false e f = absurd (true≢false (sym f))
and_true false b e f = absurd (true≢false (sym e))

pub or_left : (a b : Bool) → a ≡ true → (a || b) ≡ true
or_left true b e = refl
or_left false b e = absurd (true≢false (sym e))

pub or_right : (a b : Bool) → b ≡ true → (a || b) ≡ true
or_right true b e = refl
or_right false b e = e

pub either : (a b : Bool) → (a || b) ≡ true → (a ≡ true) ⊎ (b ≡ true)
either true b e = inl refl
either false b e = inr e

pub same_if : (a b : Bool) → (a ≡ true → b ≡ true) → (b ≡ true → a ≡ true) → a ≡ b
same_if true b f g = sym (f refl)
same_if false true f g = g refl
same_if false false f g = refl

pub some_here : (n : ℕ) (test : ℕ → Bool) (k : ℕ) → k < n → test k ≡ true → some_below n test ≡ true
some_here zero test k h e = absurd (omega arith)
some_here (suc n) test k h e = elim (cases_eq k n) [
  | inl last ↦ (let P : ℕ → Type 0 = λ m. test m ≡ true in or_right (some_below n test) (test n) (subst P last e))
  | inr other ↦ or_left (some_below n test) (test n) (some_here n test k (omega arith) e)
]

pub some_found : (n : ℕ) (test : ℕ → Bool) → some_below n test ≡ true → (k : ℕ) × ((k < n) × (test k ≡ true))
some_found zero test e = absurd (true≢false (sym e))
some_found (suc n) test e = elim (either (some_below n test) (test n) e) [
  | inl f ↦ (let k = some_found n test f in (k.0, (omega (arith, k.1.0), k.1.1)))
  | inr f ↦ (n, (omega arith, f))
]

-- what is marked and struck once the first p cells are done
pub record IsMarking (before : ℕ → ℕ → Bool) (n : ℕ) (cells : List ℕ) (i p : ℕ) (struck : ℕ → Bool) (marks : List Bool) : Type 0 where
  pub shown : (j : ℕ) → j < n → struck j ≡ true →
      (k : ℕ) × ((k < n) × ((before i k ≡ true) × ((before k j ≡ true) × ((m : ℕ) → m < n → before k m ≡ true → struck m ≡ true))))
  pub passed : (q : ℕ) → q < p → before i (get_or cells q 0) ≡ true →
      (m : ℕ) → m < n → before (get_or cells q 0) m ≡ true → struck m ≡ true
  pub right : (q : ℕ) → q < p → get_or marks (get_or cells q 0) false ≡ covers before n i (get_or cells q 0)
  pub sound : (j : ℕ) → j < n → get_or marks j false ≡ true → covers before n i j ≡ true

pub marking_begins : (before : ℕ → ℕ → Bool) (n : ℕ) (cells : List ℕ) (i : ℕ) (struck : ℕ → Bool) (marks : List Bool) →
    ((j : ℕ) → j < n → struck j ≡ false) → ((j : ℕ) → j < n → get_or marks j false ≡ false) →
    IsMarking before n cells i 0 struck marks
marking_begins before n cells i struck marks f g = record {
  shown = λ j h e. absurd (true≢false (sym e ∙ f j h));
  passed = λ q h. absurd (omega arith);
  right = λ q h. absurd (omega arith);
  sound = λ j h e. absurd (true≢false (sym e ∙ g j h));
}

module _ (before : ℕ → ℕ → Bool) (n : ℕ) (cells : List ℕ) (orderly : IsStrictOrder before n) (ordering : IsOrdering before n cells)
    (i : ℕ) (i_within : i < n) where
  -- at its turn a cell is struck exactly where some cell stands between
  struck_is : (p : ℕ) (struck : ℕ → Bool) (marks : List Bool) → p < length cells → IsMarking before n cells i p struck marks →
      struck (get_or cells p 0) ≡ some_below n (λ k. before i k && before k (get_or cells p 0))
  struck_is p struck marks within m = same_if _ _ there back
    where
      j : ℕ
      j = get_or cells p 0

      there : struck j ≡ true → some_below n (λ k. before i k && before k j) ≡ true
      there e = (let k = m.shown j (ordering.in_range p within) e in
          some_here n (λ k. before i k && before k j) k.0 k.1.0 (and_true (before i k.0) (before k.0 j) k.1.1.0 k.1.1.1.0))

      back : some_below n (λ k. before i k && before k j) ≡ true → struck j ≡ true
      back e = (let k = some_found n (λ k. before i k && before k j) e in
          let b = both (before i k.0) (before k.0 j) k.1.1 in
          let q = behind before n cells ordering p k.0 within k.1.0 b.1 in
          let P : ℕ → Type 0 = λ x. before i x ≡ true in
          let Q : ℕ → Type 0 = λ x. before x j ≡ true in
          m.passed q.0 q.1.0 (subst P (sym q.1.1) b.0) j (ordering.in_range p within) (subst Q (sym q.1.1) b.1))

  direct_is : (p : ℕ) (struck : ℕ → Bool) (marks : List Bool) → p < length cells → IsMarking before n cells i p struck marks →
      is_direct before struck i (get_or cells p 0) ≡ covers before n i (get_or cells p 0)
  direct_is p struck marks within m = ap (λ b. before i (get_or cells p 0) && not b) (struck_is p struck marks within m)

  not_direct : (a b : Bool) → (a && not b) ≡ false → a ≡ true → b ≡ true
  not_direct true true e f = refl
  not_direct true false e f = absurd (true≢false e)
  not_direct false b e f = absurd (true≢false (sym f))

  -- the cell is marked, and what it is before is struck
  mark_step : (p : ℕ) (struck : ℕ → Bool) (marks : List Bool) (struck' : ℕ → Bool) → p < length cells → length marks ≡ n → IsMarking before n cells i p struck marks →
      is_direct before struck i (get_or cells p 0) ≡ true →
      ((m : ℕ) → m < n → struck' m ≡ (struck m || before (get_or cells p 0) m)) →
      IsMarking before n cells i (p + 1) struck' (set marks (get_or cells p 0) true)
  mark_step p struck marks struck' within size m direct new = record {
    shown = shown;
    passed = passed;
    right = right;
    sound = sound;
  }
    where
      j : ℕ
      j = get_or cells p 0

      ahead : before i j ≡ true
      ahead = (both (before i j) (not (struck j)) direct).0

      grown : (k : ℕ) → k < n → struck k ≡ true → struck' k ≡ true
      grown k h e = new k h ∙ or_left (struck k) (before j k) e

      reached : (k : ℕ) → k < n → before j k ≡ true → struck' k ≡ true
      reached k h e = new k h ∙ or_right (struck k) (before j k) e

      shown : (x : ℕ) → x < n → struck' x ≡ true →
          (k : ℕ) × ((k < n) × ((before i k ≡ true) × ((before k x ≡ true) × ((y : ℕ) → y < n → before k y ≡ true → struck' y ≡ true))))
      shown x h e = elim (either (struck x) (before j x) (sym (new x h) ∙ e)) [
        | inl f ↦ (let k = m.shown x h f in
            (k.0, (k.1.0, (k.1.1.0, (k.1.1.1.0, λ y l b. grown y l (k.1.1.1.1 y l b))))))
        | inr f ↦ (j, (ordering.in_range p within, (ahead, (f, λ y l b. reached y l b))))
      ]

      passed : (q : ℕ) → q < p + 1 → before i (get_or cells q 0) ≡ true →
          (y : ℕ) → y < n → before (get_or cells q 0) y ≡ true → struck' y ≡ true
      passed q h a y l b = elim (cases_eq q p) [
        | inl last ↦ (let P : ℕ → Type 0 = λ x. before (get_or cells x 0) y ≡ true in reached y l (subst P last b))
        | inr other ↦ grown y l (m.passed q (omega arith) a y l b)
      ]

      marked : get_or (set marks j true) j false ≡ covers before n i j
      marked = (let lt : j < length marks = omega (arith, ordering.in_range p within) in
          rw get_or-set_same (sym direct ∙ direct_is p struck marks within m))

      right : (q : ℕ) → q < p + 1 → get_or (set marks j true) (get_or cells q 0) false ≡ covers before n i (get_or cells q 0)
      right q h = elim (cases_eq (get_or cells q 0) j) [
        | inl same ↦ (let P : ℕ → Type 0 = λ x. get_or (set marks j true) x false ≡ covers before n i x in subst P (sym same) marked)
        | inr other ↦ elim (cases_eq q p) [
          | inl last ↦ absurd (other (ap (λ x. get_or cells x 0) last))
          | inr less ↦ (let ne : get_or cells q 0 ≢ j = other in rw get_or-set_other (m.right q (omega arith)))
        ]
      ]

      sound : (x : ℕ) → x < n → get_or (set marks j true) x false ≡ true → covers before n i x ≡ true
      sound x h e = elim (cases_eq x j) [
        | inl same ↦ (let P : ℕ → Type 0 = λ y. covers before n i y ≡ true in
            subst P (sym same) (sym (direct_is p struck marks within m) ∙ direct))
        | inr other ↦ (let ne : x ≢ j = other in m.sound x h (rw get_or-set_other at e))
      ]

  -- the cell is passed over
  pass_step : (p : ℕ) (struck : ℕ → Bool) (marks : List Bool) (struck' : ℕ → Bool) → p < length cells → IsMarking before n cells i p struck marks →
      is_direct before struck i (get_or cells p 0) ≡ false →
      ((m : ℕ) → m < n → struck' m ≡ struck m) →
      IsMarking before n cells i (p + 1) struck' marks
  pass_step p struck marks struck' within m direct new = record {
    shown = λ x h e. (let k = m.shown x h (sym (new x h) ∙ e) in
        (k.0, (k.1.0, (k.1.1.0, (k.1.1.1.0, λ y l b. new y l ∙ k.1.1.1.1 y l b)))));
    passed = passed;
    right = right;
    sound = m.sound;
  }
    where
      j : ℕ
      j = get_or cells p 0

      passed : (q : ℕ) → q < p + 1 → before i (get_or cells q 0) ≡ true →
          (y : ℕ) → y < n → before (get_or cells q 0) y ≡ true → struck' y ≡ true
      passed q h a y l b = elim (cases_eq q p) [
        | inl last ↦ (let P : ℕ → Type 0 = λ x. before i (get_or cells x 0) ≡ true in
            let Q : ℕ → Type 0 = λ x. before (get_or cells x 0) y ≡ true in
            let k = m.shown j (ordering.in_range p within) (not_direct (before i j) (struck j) direct (subst P last a)) in
            new y l ∙ k.1.1.1.1 y l (orderly.joins k.0 j y k.1.0 (ordering.in_range p within) l k.1.1.1.0 (subst Q last b)))
        | inr other ↦ new y l ∙ m.passed q (omega arith) a y l b
      ]

      right : (q : ℕ) → q < p + 1 → get_or marks (get_or cells q 0) false ≡ covers before n i (get_or cells q 0)
      right q h = elim (cases_eq q p) [
        | inl last ↦ (let P : ℕ → Type 0 = λ x. get_or marks (get_or cells x 0) false ≡ covers before n i (get_or cells x 0) in
            subst P (sym last) (elim (cases_Bool (get_or marks j false)) [
              | inl e ↦ e ∙ sym (m.sound j (ordering.in_range p within) e)
              | inr e ↦ e ∙ sym direct ∙ direct_is p struck marks within m
            ]))
        | inr other ↦ m.right q (omega arith)
      ]

  pub marking_more : (p : ℕ) (struck : ℕ → Bool) (marks : List Bool) (struck' : ℕ → Bool) (marks' : List Bool) → p < length cells → length marks ≡ n → IsMarking before n cells i p struck marks →
      marks' ≡ cond (is_direct before struck i (get_or cells p 0)) (set marks (get_or cells p 0) true) marks →
      ((m : ℕ) → m < n → struck' m ≡ (struck m || (is_direct before struck i (get_or cells p 0) && before (get_or cells p 0) m))) →
      IsMarking before n cells i (p + 1) struck' marks'
  marking_more p struck marks struck' marks' within size m marked new = elim (cases_Bool (is_direct before struck i (get_or cells p 0))) [
    | inl e ↦ (let f : marks' ≡ set marks (get_or cells p 0) true = marked ∙ ap (λ b. cond b (set marks (get_or cells p 0) true) marks) e in
        let P : List Bool → Type 0 = λ ms. IsMarking before n cells i (p + 1) struck' ms in
        subst P (sym f) (mark_step p struck marks struck' within size m e
        (λ y h. new y h ∙ ap (λ b. struck y || (b && before (get_or cells p 0) y)) e)))
    | inr e ↦ (let f : marks' ≡ marks = marked ∙ ap (λ b. cond b (set marks (get_or cells p 0) true) marks) e in
        let P : List Bool → Type 0 = λ ms. IsMarking before n cells i (p + 1) struck' ms in
        subst P (sym f) (pass_step p struck marks struck' within m e
        (λ y h. new y h ∙ ap (λ b. struck y || (b && before (get_or cells p 0) y)) e ∙ or_false (struck y))))
  ]
    where
      or_false : (a : Bool) → (a || false) ≡ a
      or_false true = refl
      or_false false = refl

  pub marking_ends : (struck : ℕ → Bool) (marks : List Bool) → IsMarking before n cells i (length cells) struck marks →
      (j : ℕ) → j < n → get_or marks j false ≡ covers before n i j
  marking_ends struck marks m j h = (let p = ordering.whole j h in
      let P : ℕ → Type 0 = λ x. get_or marks x false ≡ covers before n i x in
      subst P p.1.1 (m.right p.0 p.1.0))
