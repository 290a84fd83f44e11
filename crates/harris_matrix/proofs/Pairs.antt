-- The list of covers, cell by cell.
use Rattle.std.proofs.Common.{arith, zero, suc, ◌≡◌, ◌<◌, ◌≤◌, ◌+◌, ◌-◌, ◌*◌, ◌^◌, inl, inr, ℕ, Bool, true, false, cond, List, [], ◌∷◌, ◌++◌, length, get_or, refl, sym, ap, ap₂, subst, ◌∙◌, length-append}
use Rattle.std.proofs.lemmas.List.{get_or_append_left, get_or-append_right, get_or_push, length_push}
use Rattle.std.proofs.lemmas.Bool.{cases_Bool, cases_eq, cases_lt}
use Rattle.std.proofs.Math.Nat.{mul-le-mul_left}
use Rattle.harris_matrix.specs.declared.cells.CellPair.{CellPair}
use Rattle.harris_matrix.specs.Covers.{pairs_with, covers, covers_of, all_covers, starts_of}
use Rattle.harris_matrix.specs.Levels.{IsOrdering}
use Rattle.harris_matrix.specs.Walks.{no_pair, pair_at, AreStarts, IsLaidOut}
use Rattle.std.specs.Prelude.{◌&&◌}

pub pairs_with_same : (i n : ℕ) (s t : ℕ → Bool) → ((j : ℕ) → j < n → s j ≡ t j) → pairs_with i s n ≡ pairs_with i t n
pairs_with_same i zero s t h = refl
pairs_with_same i (suc n) s t h =
    ap₂ (λ ps b. ps ++ cond b (record { first = i; second = n } ∷ []) []) (pairs_with_same i n s t (λ j l. h j (omega arith))) (h n (omega arith))

-- the pairs of one cell, and what their test says
pub record IsPairOf (i n : ℕ) (test : ℕ → Bool) (pair : CellPair) : Type 0 where
  pub own : pair.first ≡ i
  pub within : pair.second < n
  pub passes : test pair.second ≡ true

pub each_pair : (i n : ℕ) (test : ℕ → Bool) (c : ℕ) → c < length (pairs_with i test n) → IsPairOf i n test (pair_at (pairs_with i test n) c)
each_pair i zero test c h = absurd (omega arith)
each_pair i (suc n) test c h = elim (cases_Bool (test n)) [
  | inr nay ↦ (let e : pairs_with i test (suc n) ≡ pairs_with i test n = rw nay (append_nothing (pairs_with i test n)) in
      let P : List CellPair → Type 0 = λ ps. IsPairOf i (suc n) test (pair_at ps c) in
      let l : c < length (pairs_with i test n) = omega (arith, ap length e) in
      subst P (sym e) (wider (each_pair i n test c l)))
  | inl yea ↦ (let last : CellPair = record { first = i; second = n } in
      let e : pairs_with i test (suc n) ≡ pairs_with i test n ++ last ∷ [] = rw yea refl in
      let P : List CellPair → Type 0 = λ ps. IsPairOf i (suc n) test (pair_at ps c) in
      let Q : CellPair → Type 0 = IsPairOf i (suc n) test in
      subst P (sym e) (elim (cases_eq c (length (pairs_with i test n))) [
        | inl here ↦ subst Q (sym (get_or_push (pairs_with i test n) last no_pair c (sym here))) (record { own = refl; within = omega arith; passes = yea })
        | inr other ↦ (let l : c < length (pairs_with i test n) = omega (arith, ap length e, length_push (pairs_with i test n) last, other) in
            subst Q (sym (get_or_append_left (pairs_with i test n) (last ∷ []) no_pair c l)) (wider (each_pair i n test c l)))
      ]))
]
  where
    append_nothing : (ps : List CellPair) → ps ++ [] ≡ ps
    append_nothing [] = refl
    append_nothing (p ∷ ps) = ap (λ qs. p ∷ qs) (append_nothing ps)

    wider : {p : CellPair} → IsPairOf i n test p → IsPairOf i (suc n) test p
    wider w = record { own = w.own; within = omega (arith, w.within); passes = w.passes }

-- the last of the pairs of one cell are few
length-pairs_with : (i n : ℕ) (test : ℕ → Bool) → length (pairs_with i test n) ≤ n
length-pairs_with i zero test = omega arith
length-pairs_with i (suc n) test = elim (cases_Bool (test n)) [
  | inl yea ↦ rw yea (omega (arith, length_push (pairs_with i test n) (record { first = i; second = n }), length-pairs_with i n test))
  | inr nay ↦ rw nay (omega (arith, length-append (pairs_with i test n) [], length-pairs_with i n test))
]

-- a pair of the list: a cover, between where the covers of its first cell begin and end
pub record IsCoverAt (before : ℕ → ℕ → Bool) (n m c : ℕ) (pair : CellPair) : Type 0 where
  pub first : pair.first < m
  pub second : pair.second < n
  pub covers : covers before n pair.first pair.second ≡ true
  pub from : length (covers_of before n pair.first) ≤ c
  pub to : c < length (covers_of before n (pair.first + 1))

module _ (before : ℕ → ℕ → Bool) (n : ℕ) where
  abbrev row : ℕ → List CellPair
  row m = pairs_with m (covers before n m) n

  longer : (m : ℕ) → length (covers_of before n (suc m)) ≡ length (covers_of before n m) + length (row m)
  longer m = length-append (covers_of before n m) (row m)

  grows : (i m : ℕ) → i ≤ m → length (covers_of before n i) ≤ length (covers_of before n m)
  grows i zero h = (let e : i ≡ 0 = omega arith in rw e (omega arith))
  grows i (suc m) h = elim (cases_eq i (suc m)) [
    | inl same ↦ rw same (omega arith)
    | inr other ↦ omega (arith, grows i m (omega (arith, other)), longer m)
  ]

  pub few_covers : (m : ℕ) → length (covers_of before n m) ≤ m * n
  few_covers zero = omega arith
  few_covers (suc m) =
      let next : suc m ≡ m + 1 = omega arith in
      let P : ℕ → Type 0 = λ x. length (covers_of before n (suc m)) ≤ x * n in
      subst P (sym next) (omega (arith, longer m, few_covers m, length-pairs_with m n (covers before n m)))

  pub each_cover : (m c : ℕ) → c < length (covers_of before n m) → IsCoverAt before n m c (pair_at (covers_of before n m) c)
  each_cover zero c h = absurd (omega arith)
  each_cover (suc m) c h = elim (cases_lt c (length (covers_of before n m))) [
    | inl left ↦ (let P : CellPair → Type 0 = IsCoverAt before n (suc m) c in
        let own = each_cover m c left in
        subst P (sym (get_or_append_left (covers_of before n m) (row m) no_pair c left))
        (record { first = omega (arith, own.first); second = own.second; covers = own.covers; from = own.from; to = own.to }))
    | inr right ↦ (let P : CellPair → Type 0 = IsCoverAt before n (suc m) c in
        let k : ℕ = c - length (covers_of before n m) in
        let inside : k < length (row m) = omega (arith, longer m) in
        let own = each_pair m n (covers before n m) k inside in
        subst P (sym (get_or-append_right (covers_of before n m) (row m) (length (covers_of before n m)) c no_pair refl right))
        (of_row c right h (pair_at (row m) k) own))
  ]
    where
      of_row : (c : ℕ) → length (covers_of before n m) ≤ c → c < length (covers_of before n (suc m)) → (pair : CellPair) →
          IsPairOf m n (covers before n m) pair → IsCoverAt before n (suc m) c pair
      of_row c right h pair own = record {
        first = omega (arith, own.own);
        second = own.within;
        covers = (let P : ℕ → Type 0 = λ x. covers before n x pair.second ≡ true in subst P (sym own.own) own.passes);
        from = (let P : ℕ → Type 0 = λ x. length (covers_of before n x) ≤ c in subst P (sym own.own) right);
        to = (let next : suc m ≡ m + 1 = omega arith in
            let P : ℕ → Type 0 = λ x. c < length (covers_of before n (x + 1)) in
            let Q : ℕ → Type 0 = λ x. c < length (covers_of before n x) in
            subst P (sym own.own) (subst Q next h));
      }

  length-starts_of : (m : ℕ) → length (starts_of before n m) ≡ m + 1
  length-starts_of zero = refl
  length-starts_of (suc m) = omega (arith, length_push (starts_of before n m) (length (covers_of before n (suc m))), length-starts_of m)

  get_or-starts_of : (m i : ℕ) → i ≤ m → get_or (starts_of before n m) i 0 ≡ length (covers_of before n i)
  get_or-starts_of zero i h = (let e : i ≡ 0 = omega arith in rw e refl)
  get_or-starts_of (suc m) i h = elim (cases_eq i (suc m)) [
    | inl same ↦ get_or_push (starts_of before n m) (length (covers_of before n (suc m))) 0 i (length-starts_of m ∙ omega (arith, same))
        ∙ ap (λ x. length (covers_of before n x)) (sym same)
    | inr other ↦ get_or_append_left (starts_of before n m) (length (covers_of before n (suc m)) ∷ []) 0 i (omega (arith, length-starts_of m, other))
        ∙ get_or-starts_of m i (omega (arith, other))
  ]

  pub starts_are : n ≤ 2 ^ 16 → AreStarts n (all_covers before n) (starts_of before n n)
  starts_are few = record {
    size = length-starts_of n;
    few = omega (arith, few_covers n, mul-le-mul_left n few);
    ascending = λ i h. omega (arith, get_or-starts_of n i (omega arith), get_or-starts_of n (i + 1) (omega arith), grows i (i + 1) (omega arith));
    within = λ i h. omega (arith, get_or-starts_of n (i + 1) (omega arith), grows (i + 1) n (omega arith));
    own = own;
    whole = λ c h. (let w = each_cover n c h in (
      w.first,
      w.second,
      omega (arith, w.from, get_or-starts_of n (pair_at (all_covers before n) c).first (omega (arith, w.first))),
      omega (arith, w.to, get_or-starts_of n ((pair_at (all_covers before n) c).first + 1) (omega (arith, w.first))),
    ));
  }
    where
      own : (i c : ℕ) → i < n → get_or (starts_of before n n) i 0 ≤ c → c < get_or (starts_of before n n) (i + 1) 0 →
          (c < length (all_covers before n)) × ((pair_at (all_covers before n) c).first ≡ i)
      own i c h from to =
          let inside : c < length (all_covers before n) = omega (arith, get_or-starts_of n (i + 1) (omega arith), grows (i + 1) n (omega arith)) in
          let w = each_cover n c inside in
          let f : ℕ = (pair_at (all_covers before n) c).first in (
            inside,
            elim (cases_lt f i) [
              | inl less ↦ absurd (omega (arith, w.to, grows (f + 1) i (omega arith), get_or-starts_of n i (omega arith)))
              | inr not_less ↦ elim (cases_lt i f) [
                | inl more ↦ absurd (omega (arith, w.from, grows (i + 1) f (omega arith), get_or-starts_of n (i + 1) (omega arith)))
                | inr not_more ↦ omega arith
              ]
            ],
          )

  pub laid_out : (cells : List ℕ) → n ≤ 2 ^ 16 → IsOrdering before n cells → IsLaidOut n (all_covers before n) (starts_of before n n) cells
  laid_out cells few ordering = record {
    few_cells = few;
    are_starts = starts_are few;
    forward = record { in_range = ordering.in_range; whole = ordering.whole; ahead = ahead };
  }
    where
      both : (a b : Bool) → (a && b) ≡ true → a ≡ true
      both true b e = refl
      both false b e = e

      ahead : (p q c : ℕ) → p < length cells → q < length cells → c < length (all_covers before n) →
          (pair_at (all_covers before n) c).first ≡ get_or cells p 0 → (pair_at (all_covers before n) c).second ≡ get_or cells q 0 → p < q
      ahead p q c h l w e f =
          let own = each_cover n c w in
          let P : ℕ → Type 0 = λ x. before x (get_or cells q 0) ≡ true in
          let Q : ℕ → Type 0 = λ x. before (pair_at (all_covers before n) c).first x ≡ true in
          ordering.ahead p q h l (subst P e (subst Q f (both _ _ own.covers)))
