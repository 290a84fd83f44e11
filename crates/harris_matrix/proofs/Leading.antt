-- What is before what is exactly what walks of covers show.
use Rattle.std.proofs.Common.{arith, zero, suc, ◌≡◌, ◌<◌, ◌≤◌, ◌+◌, ◌-◌, ◌↔◌, inl, inr, ℕ, Bool, true, false, cond, List, [], ◌∷◌, ◌++◌, length, refl, sym, ap, subst, ◌∙◌, length-append}
use Rattle.std.specs.Prelude.{◌&&◌}
use Rattle.std.proofs.lemmas.Bool.{cases_Bool, cases_eq}
use Rattle.std.proofs.lemmas.List.{get_or_append_left, get_or-append_right}
use Rattle.harris_matrix.specs.declared.cells.CellPair.{CellPair}
use Rattle.harris_matrix.specs.Covers.{some_below, covers, pairs_with, covers_of, all_covers}
use Rattle.harris_matrix.specs.Levels.{count_below}
use Rattle.harris_matrix.specs.Rows.{IsStrictOrder}
use Rattle.harris_matrix.specs.Walks.{no_pair, pair_at, IsWalk}
use Rattle.harris_matrix.proofs.Levelling.{count_less}
use Rattle.harris_matrix.proofs.Pairs.{each_cover}
use Rattle.harris_matrix.proofs.Reading.{walks_join}
use Rattle.harris_matrix.proofs.Striking.{both, and_true, some_found}

-- a pair stands in a list of pairs
abbrev Stands : List CellPair → CellPair → Type 0
Stands pairs pair = (c : ℕ) × ((c < length pairs) × (pair_at pairs c ≡ pair))

stands_left : (ps qs : List CellPair) (pair : CellPair) → Stands ps pair → Stands (ps ++ qs) pair
stands_left ps qs pair s = (s.0, (omega (arith, length-append ps qs, s.1.0), get_or_append_left ps qs no_pair s.0 s.1.0 ∙ s.1.1))

stands_right : (ps qs : List CellPair) (pair : CellPair) → Stands qs pair → Stands (ps ++ qs) pair
stands_right ps qs pair s =
    let back : length ps + s.0 - length ps ≡ s.0 = omega arith in (
      length ps + s.0,
      (
        omega (arith, length-append ps qs, s.1.0),
        get_or-append_right ps qs (length ps) (length ps + s.0) no_pair refl (omega arith) ∙ ap (λ k. pair_at qs k) back ∙ s.1.1,
      ),
    )

in_row : (i n : ℕ) (test : ℕ → Bool) (j : ℕ) → j < n → test j ≡ true → Stands (pairs_with i test n) (record { first = i; second = j })
in_row i zero test j h e = absurd (omega arith)
in_row i (suc n) test j h e = elim (cases_eq j n) [
  | inl last ↦ (let P : ℕ → Type 0 = λ k. test k ≡ true in
      let pair : CellPair = record { first = i; second = n } in
      let f : test n ≡ true = subst P last e in
      let here : pairs_with i test (suc n) ≡ pairs_with i test n ++ pair ∷ [] = rw f refl in
      let Q : List CellPair → Type 0 = λ ps. Stands ps (record { first = i; second = j }) in
      let R : ℕ → Type 0 = λ k. Stands (pairs_with i test n ++ pair ∷ []) (record { first = i; second = k }) in
      subst Q (sym here) (subst R (sym last) (stands_right (pairs_with i test n) (pair ∷ []) pair (0, (omega arith, refl)))))
  | inr other ↦ stands_left (pairs_with i test n) (cond (test n) (record { first = i; second = n } ∷ []) []) (record { first = i; second = j })
      (in_row i n test j (omega (arith, other)) e)
]

in_rows : (before : ℕ → ℕ → Bool) (n m i j : ℕ) → i < m → j < n → covers before n i j ≡ true → Stands (covers_of before n m) (record { first = i; second = j })
in_rows before n zero i j h l e = absurd (omega arith)
in_rows before n (suc m) i j h l e = elim (cases_eq i m) [
  | inl last ↦ (let P : ℕ → Type 0 = λ k. Stands (pairs_with k (covers before n k) n) (record { first = i; second = j }) in
      stands_right (covers_of before n m) (pairs_with m (covers before n m) n) (record { first = i; second = j })
      (subst P last (in_row i n (covers before n i) j l e)))
  | inr other ↦ stands_left (covers_of before n m) (pairs_with m (covers before n m) n) (record { first = i; second = j })
      (in_rows before n m i j (omega (arith, other)) l e)
]

module _ (n : ℕ) (before : ℕ → ℕ → Bool) (orderly : IsStrictOrder before n) where
  between : ℕ → ℕ → ℕ → Bool
  between i j k = before i k && before k j

  fewer_left : (i j k : ℕ) → i < n → j < n → k < n → before i k ≡ true → before k j ≡ true →
      count_below n (λ m. before i m && before m k) < count_below n (λ m. before i m && before m j)
  fewer_left i j k h l w e f =
      count_less n (λ m. before i m && before m k) (λ m. before i m && before m j)
      (λ m x g. (let c = both (before i m) (before m k) g in and_true (before i m) (before m j) c.0 (orderly.joins m k j x w l c.1 f)))
      k w (rw (e, orderly.never k w) refl) (and_true (before i k) (before k j) e f)

  fewer_right : (i j k : ℕ) → i < n → j < n → k < n → before i k ≡ true → before k j ≡ true →
      count_below n (λ m. before k m && before m j) < count_below n (λ m. before i m && before m j)
  fewer_right i j k h l w e f =
      count_less n (λ m. before k m && before m j) (λ m. before i m && before m j)
      (λ m x g. (let c = both (before k m) (before m j) g in and_true (before i m) (before m j) (orderly.joins i k m h w x e c.0) c.1))
      k w (rw (orderly.never k w) refl) (and_true (before i k) (before k j) e f)

  abbrev Leads : ℕ → ℕ → Type 0
  Leads i j = (cs : List ℕ) × ((0 < length cs) × IsWalk (all_covers before n) i j cs)

  by_cover : (i j : ℕ) → i < n → j < n → before i j ≡ true → some_below n (λ k. before i k && before k j) ≡ false → Leads i j
  by_cover i j h l e none =
      let s = in_rows before n n i j h l (rw (e, none) refl) in
      (s.0 ∷ [], (omega arith, (s.1.0, ap (λ x. x.first) s.1.1, ap (λ x. x.second) s.1.1)))

  joined : (i k j : ℕ) → Leads i k → Leads k j → Leads i j
  joined i k j a b = (a.0 ++ b.0, (omega (arith, length-append a.0 b.0, a.1.0), walks_join (all_covers before n) i k j a.0 b.0 a.1.1 b.1.1))

  within : (fuel i j : ℕ) → i < n → j < n → count_below n (λ k. before i k && before k j) ≤ fuel → before i j ≡ true → Leads i j
  within zero i j h l few e = elim (cases_Bool (some_below n (λ k. before i k && before k j))) [
    | inr none ↦ by_cover i j h l e none
    | inl some ↦ (let k = some_found n (λ k. before i k && before k j) some in
        let b = both (before i k.0) (before k.0 j) k.1.1 in
        absurd (omega (arith, few, fewer_left i j k.0 h l k.1.0 b.0 b.1)))
  ]
  within (suc fuel) i j h l few e = elim (cases_Bool (some_below n (λ k. before i k && before k j))) [
    | inr none ↦ by_cover i j h l e none
    | inl some ↦ (let k = some_found n (λ k. before i k && before k j) some in
        let b = both (before i k.0) (before k.0 j) k.1.1 in
        joined i k.0 j
        (within fuel i k.0 h k.1.0 (omega (arith, few, fewer_left i j k.0 h l k.1.0 b.0 b.1)) b.0)
        (within fuel k.0 j k.1.0 l (omega (arith, few, fewer_right i j k.0 h l k.1.0 b.0 b.1)) b.1))
  ]

  back : (i j : ℕ) (cs : List ℕ) → j < n → 0 < length cs → IsWalk (all_covers before n) i j cs → (i < n) × (before i j ≡ true)
  back i j [] l some walk = absurd (omega arith)
  back i j (c ∷ []) l some walk =
      let own = each_cover before n n c walk.0 in
      let P : ℕ → Type 0 = λ x. before i x ≡ true in
      let Q : ℕ → Type 0 = λ x. before x (pair_at (all_covers before n) c).second ≡ true in
      (omega (arith, own.first, walk.1), subst P walk.2 (subst Q walk.1 (both _ _ own.covers).0))
  back i j (c ∷ (b ∷ cs)) l some walk =
      let own = each_cover before n n c walk.0 in
      let rest = back (pair_at (all_covers before n) c).second j (b ∷ cs) l (omega arith) walk.2 in
      let Q : ℕ → Type 0 = λ x. before x (pair_at (all_covers before n) c).second ≡ true in
      let h : i < n = omega (arith, own.first, walk.1) in
      (h, orderly.joins i (pair_at (all_covers before n) c).second j h own.second l (subst Q walk.1 (both _ _ own.covers).0) rest.1)

  pub walks_lead : (i j : ℕ) → i < n → j < n → (before i j ≡ true) ↔ Leads i j
  walks_lead i j h l = (λ e. within n i j h l (few n (λ k. before i k && before k j)) e, λ w. (back i j w.0 l w.1.0 w.1.1).1)
    where
      few : (m : ℕ) (test : ℕ → Bool) → count_below m test ≤ m
      few zero test = omega arith
      few (suc m) test = elim (cases_Bool (test m)) [
        | inl yea ↦ rw yea (omega (arith, few m test))
        | inr nay ↦ rw nay (omega (arith, few m test))
      ]
