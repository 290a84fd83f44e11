-- A step along all held triples.
use Rattle.std.proofs.Common.{◌≡◌, ℕ, zero, suc, ◌+◌, ◌<◌, true, false, Option, Some, None, List, [], ◌∷◌, length, drop, position, nat_lt, arith, refl, sym, ap, ap₂, ◌∙◌, inl, inr}
use Rattle.std.specs.List.{position_or_len}
use Rattle.std.proofs.lemmas.Bool.{cases_Bool, cases_lt, cond-true, cond-false}
use Rattle.std.proofs.lemmas.List.{get_or_past}
use Rattle.std.proofs.lemmas.List.Sums.{fails_before_first}
use Rattle.std.proofs.lemmas.List.Quantifiers.{position-Some}
use Rattle.rdf_terms.specs.declared.terms.Triple.{Triple}
use Rattle.triple_pool.specs.declared.Slot.{Slot}
use Rattle.triple_pool.specs.Chains.{slot_at, no_slot, pairs_from}

some_none : (n : ℕ) → ◌≡◌ {A = Option ℕ} (Some n) None → ⊥
some_none n e = cc

none_held : (xs : List Slot) → position (λ (s : Slot). s.held) xs ≡ None → (k : ℕ) → (slot_at xs k).held ≡ false
none_held xs e k = elim (cases_Bool (nat_lt (position_or_len (λ (s : Slot). s.held) xs) (length xs))) [
  | inl yea ↦ absurd (some_none (position_or_len (λ (s : Slot). s.held) xs)
      (sym (cond-true (nat_lt (position_or_len (λ (s : Slot). s.held) xs) (length xs)) (Some (position_or_len (λ (s : Slot). s.held) xs)) None yea) ∙ e))
  | inr nay ↦ elim (cases_lt k (length xs)) [
    | inl less ↦ fails_before_first (λ (s : Slot). s.held) xs k no_slot (grind (arith, nay, less))
    | inr more ↦ ap (λ (s : Slot). s.held) (get_or_past xs k no_slot more)
  ]
]

none_paired : (xs : List Slot) (m : ℕ) → ((k : ℕ) → (slot_at xs k).held ≡ false) → pairs_from m xs ≡ []
none_paired [] m h = refl
none_paired (x ∷ xs) m h =
    cond-false x.held ((m, x.triple) ∷ pairs_from (suc m) xs) (pairs_from (suc m) xs) (h 0) ∙ none_paired xs (suc m) (λ k. h (suc k))

-- no record is held, so no pair is left
pub paired_end : (xs : List Slot) (m : ℕ) (now : List (ℕ × Triple)) → position (λ (s : Slot). s.held) xs ≡ None → pairs_from m xs ≡ now → now ≡ []
paired_end xs m now e is = sym is ∙ none_paired xs m (none_held xs e)

some_paired : (xs : List Slot) (m i : ℕ) → i < length xs → (slot_at xs i).held ≡ true → ((k : ℕ) → k < i → (slot_at xs k).held ≡ false) →
    pairs_from m xs ≡ (m + i, (slot_at xs i).triple) ∷ pairs_from (m + i + 1) (drop (i + 1) xs)
some_paired [] m i l h b = absurd (omega arith)
some_paired (x ∷ xs) m zero l h b =
    cond-true x.held ((m, x.triple) ∷ pairs_from (suc m) xs) (pairs_from (suc m) xs) h
    ∙ ap₂ (λ (a n : ℕ). (a, x.triple) ∷ pairs_from n xs) (omega arith) (omega arith)
some_paired (x ∷ xs) m (suc i) l h b =
    let shift : suc (i + 1) ≡ suc i + 1 = omega arith in
    cond-false x.held ((m, x.triple) ∷ pairs_from (suc m) xs) (pairs_from (suc m) xs) (b 0 (omega arith))
    ∙ some_paired xs (suc m) i (omega arith) h (λ k s. b (suc k) (omega arith))
    ∙ ap (λ (n : ℕ). (n, (slot_at xs i).triple) ∷ pairs_from (n + 1) (drop (i + 1) xs)) (omega arith)
    ∙ ap (λ (n : ℕ). (m + suc i, (slot_at xs i).triple) ∷ pairs_from (m + suc i + 1) (drop n (x ∷ xs))) shift

-- the first held record is that of the first pair
pub paired : (xs rest : List Slot) (m i : ℕ) (now : List (ℕ × Triple)) → position (λ (s : Slot). s.held) xs ≡ Some i → pairs_from m xs ≡ now →
    rest ≡ drop (i + 1) xs → now ≡ (m + i, (slot_at xs i).triple) ∷ pairs_from (m + i + 1) rest
paired xs rest m i now e is left =
    let at = position-Some (λ (s : Slot). s.held) xs i no_slot e in
    sym is ∙ some_paired xs m i at.0 at.1 at.2
    ∙ ap (λ (r : List Slot). (m + i, (slot_at xs i).triple) ∷ pairs_from (m + i + 1) r) (sym left)

pub within : (xs : List Slot) (i : ℕ) → position (λ (s : Slot). s.held) xs ≡ Some i → i < length xs
within xs i e = (position-Some (λ (s : Slot). s.held) xs i no_slot e).0
