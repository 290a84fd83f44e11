-- Cells by the number of cells before each: each stands behind all that are before it.
use Rattle.std.proofs.Common.{arith, zero, suc, ◌≡◌, ◌<◌, inl, inr, ℕ, Bool, true, List, [], ◌∷◌, length, get_or, map, refl, sym, ap, subst, ◌∙◌}
use Rattle.std.specs.Prelude.{All, Contains}
use Rattle.std.specs.List.Sorted.{IsNonDecreasingBy, IsPermutation}
use Rattle.std.proofs.lemmas.List.Sorted.{All-permutation, Contains-permutation}
use Rattle.std.proofs.lemmas.List.{get_or-map, length-map, get_or_append_left, get_or_push, length_push}
use Rattle.std.proofs.lemmas.Bool.{cases_eq, cases_lt}
use Rattle.harris_matrix.specs.declared.levels.Ranked.{Ranked}
use Rattle.harris_matrix.specs.Levels.{IsOrdering, count_below}
use Rattle.harris_matrix.specs.Ranks.{ranked, ranked_below}
use Rattle.harris_matrix.specs.Rows.{IsStrictOrder}
use Rattle.harris_matrix.proofs.Levelling.{rank_grows}

length-ranked_below : (before : ℕ → ℕ → Bool) (count n : ℕ) → length (ranked_below before count n) ≡ n
length-ranked_below before count zero = refl
length-ranked_below before count (suc n) = omega (arith, length_push (ranked_below before count n) (ranked before count n), length-ranked_below before count n)

get_or-ranked_below : (before : ℕ → ℕ → Bool) (count n k : ℕ) (d : Ranked) → k < n → get_or (ranked_below before count n) k d ≡ ranked before count k
get_or-ranked_below before count zero k d h = absurd (omega arith)
get_or-ranked_below before count (suc n) k d h = elim (cases_eq k n) [
  | inl same ↦ get_or_push (ranked_below before count n) (ranked before count n) d k (length-ranked_below before count n ∙ sym same) ∙ ap (ranked before count) (sym same)
  | inr other ↦ get_or_append_left (ranked_below before count n) (ranked before count n ∷ []) d k (omega (arith, length-ranked_below before count n, other))
      ∙ get_or-ranked_below before count n k d (omega (arith, other))
]

abbrev IsOwn : (ℕ → ℕ → Bool) → ℕ → Ranked → Type 0
IsOwn before count r = (r.cell < count) × (r.rank ≡ count_below count (λ k. before k r.cell))

all_own : (before : ℕ → ℕ → Bool) (count : ℕ) → All (IsOwn before count) (ranked_below before count count)
all_own before count k d h =
    let within : k < count = omega (arith, length-ranked_below before count count) in
    let P : Ranked → Type 0 = IsOwn before count in
    subst P (sym (get_or-ranked_below before count count k d within)) (within, refl)

contains_each : (before : ℕ → ℕ → Bool) (count k : ℕ) → k < count → Contains (ranked_below before count count) (ranked before count k)
contains_each before count k h =
    (k, omega (arith, length-ranked_below before count count), get_or-ranked_below before count count k (ranked before count k) h)

module _ (before : ℕ → ℕ → Bool) (count : ℕ) (orderly : IsStrictOrder before count) (rs : List Ranked)
    (moved : IsPermutation (ranked_below before count count) rs) (sorted : IsNonDecreasingBy (λ r. r.rank) rs) where
  nothing : Ranked
  nothing = record { rank = 0; cell = 0 }

  own : (p : ℕ) → p < length rs → IsOwn before count (get_or rs p nothing)
  own p h = All-permutation (IsOwn before count) _ rs moved (all_own before count) p nothing h

  cell_at : (p : ℕ) → p < length rs → get_or (map (λ r. r.cell) rs) p 0 ≡ (get_or rs p nothing).cell
  cell_at p h = get_or-map (λ r. r.cell) rs p nothing 0 h

  size : length (map (λ r. r.cell) rs) ≡ length rs
  size = length-map rs (λ r. r.cell)

  place : (k : ℕ) → k < count → (p : ℕ) × ((p < length rs) × (get_or rs p nothing ≡ ranked before count k))
  place k h =
      let at = Contains-permutation _ rs (ranked before count k) moved (contains_each before count k h) in
      (at.0, (at.1, same_default rs at.0 nothing (ranked before count k) at.1 ∙ at.2))
    where
      same_default : (xs : List Ranked) (p : ℕ) (d e : Ranked) → p < length xs → get_or xs p d ≡ get_or xs p e
      same_default [] p d e h = absurd (omega arith)
      same_default (x ∷ xs) zero d e h = refl
      same_default (x ∷ xs) (suc p) d e h = same_default xs p d e (omega arith)

  pub ordering_of : IsOrdering before count (map (λ r. r.cell) rs)
  ordering_of = record {
    in_range = λ p h. (let w : p < length rs = omega (arith, size) in
        let P : ℕ → Type 0 = λ x. x < count in subst P (sym (cell_at p w)) (own p w).0);
    whole = λ k h. (let p = place k h in (p.0, (omega (arith, size, p.1.0), cell_at p.0 p.1.0 ∙ ap (λ r. r.cell) p.1.1)));
    ahead = ahead;
  }
    where
      ahead : (p q : ℕ) → p < length (map (λ r. r.cell) rs) → q < length (map (λ r. r.cell) rs) →
          before (get_or (map (λ r. r.cell) rs) p 0) (get_or (map (λ r. r.cell) rs) q 0) ≡ true → p < q
      ahead p q h l e =
          let w : p < length rs = omega (arith, size) in
          let v : q < length rs = omega (arith, size) in
          let P : ℕ → Type 0 = λ x. before x (get_or (map (λ r. r.cell) rs) q 0) ≡ true in
          let Q : ℕ → Type 0 = λ x. before (get_or rs p nothing).cell x ≡ true in
          let f : before (get_or rs p nothing).cell (get_or rs q nothing).cell ≡ true = subst Q (cell_at q v) (subst P (cell_at p w) e) in
          let less = rank_grows before count orderly (get_or rs p nothing).cell (get_or rs q nothing).cell (own p w).0 (own q v).0 f in
          elim (cases_lt p q) [
            | inl less_p ↦ less_p
            | inr more_p ↦ absurd (omega (arith, less, sorted q p nothing more_p w, (own p w).1, (own q v).1))
          ]
