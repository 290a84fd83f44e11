-- The class of a code: the one that the number in the code leads to, or none.
use Rattle.std.proofs.Common.{zero, suc, ◌≡◌, ℕ, List, [], ◌∷◌, Bool, true, false, ◌<◌, length, get_or, map, nat_eq, bytes_eq, arith, inl, inr, refl, subst, ap, sym, ◌∙◌, Some, None, position}
use Rattle.std.specs.List.{position_or_len}
use Rattle.std.proofs.lemmas.List.Sums.{position_or_len_is}
use Rattle.std.proofs.lemmas.Bool.{lt-ltb, le-ltb, cases_Bool, both_ways, eqb-true}
use Rattle.std.proofs.lemmas.Slice.Eq.{bytes_eq-Decides}
use Rattle.crm_classes.specs.Table.{rows}
use Rattle.crm_classes.specs.Index.{e_numbers, a_numbers, candidate_of}
use Rattle.crm_classes.specs.Classes.{code_text, class_codes, class_of_text}
use Rattle.crm_classes.proofs.Closed.{all_below, all_below-at}

code_read : (rs : List (List ℕ × List (List ℕ))) (k : ℕ) → get_or (map (λ row. row.0) rs) k [] ≡ (get_or rs k ([], [])).0
code_read [] k = refl
code_read (r ∷ rs) zero = refl
code_read (r ∷ rs) (suc k) = code_read rs k

pub classes_count : length class_codes ≡ 71
unfolding rows
classes_count = refl

first_at : {X : Type 0} (p : X → Bool) (xs : List X) (i : ℕ) → position_or_len p xs ≡ i → i < length xs → position p xs ≡ Some i
first_at p xs i e l = rw (e, lt-ltb i (length xs) l) refl

none_at : {X : Type 0} (p : X → Bool) (xs : List X) → position_or_len p xs ≡ length xs → position p xs ≡ None
none_at p xs e = rw (e, le-ltb (length xs) (length xs) (omega arith)) refl

-- where only item k can pass the test, and passes it
pub only_found : {X : Type 0} (p : X → Bool) (xs : List X) (d : X) (k : ℕ) → k < length xs → p (get_or xs k d) ≡ true →
    ((j : ℕ) → j < length xs → p (get_or xs j d) ≡ true → j ≡ k) → position p xs ≡ Some k
only_found {X} p xs d k l here only =
    first_at p xs k (position_or_len_is p xs k d (omega arith) (λ j h. before j h) (λ _. here)) l
  where
    before : (j : ℕ) → j < k → p (get_or xs j d) ≡ false
    before j h =
        elim (cases_Bool (p (get_or xs j d))) [
          | inl yes_at ↦ absurd (omega (arith, only j (omega arith) yes_at))
          | inr no_at ↦ no_at
        ]

-- where no item passes it
pub none_found : {X : Type 0} (p : X → Bool) (xs : List X) (d : X) → ((j : ℕ) → j < length xs → p (get_or xs j d) ≡ true → ⊥) →
    position p xs ≡ None
none_found {X} p xs d never =
    none_at p xs (position_or_len_is p xs (length xs) d (omega arith) (λ j h. before j h) (λ l. absurd (omega arith)))
  where
    before : (j : ℕ) → j < length xs → p (get_or xs j d) ≡ false
    before j h =
        elim (cases_Bool (p (get_or xs j d))) [
          | inl yes_at ↦ absurd (never j h yes_at)
          | inr no_at ↦ no_at
        ]

-- each code leads to its class
led_computed : all_below 71 (λ c. nat_eq (candidate_of (code_text c)) c) ≡ true
unfolding rows e_numbers a_numbers
led_computed = refl

led : (c : ℕ) → c < 71 → candidate_of (code_text c) ≡ c
led c in_c = eqb-true (candidate_of (code_text c)) c (all_below-at 71 (λ e. nat_eq (candidate_of (code_text e)) e) led_computed c in_c)

-- a code is the text, and so leads where the text leads
leads_alike : (text : List ℕ) (c : ℕ) → c < 71 → bytes_eq text (code_text c) ≡ true → candidate_of text ≡ c
leads_alike text c in_c same = ap candidate_of ((bytes_eq-Decides text (code_text c)).0 same) ∙ led c in_c

pub found : (text : List ℕ) (k : ℕ) → k < 71 → candidate_of text ≡ k → bytes_eq text (code_text k) ≡ true → class_of_text text ≡ Some k
found text k l leads here =
    only_found (bytes_eq text) class_codes [] k (omega (arith, classes_count)) (rw (code_read rows k) here)
    (λ j h same. sym (leads_alike text j (omega (arith, classes_count)) (rw (code_read rows j) at same)) ∙ leads)

pub not_found : (text : List ℕ) → (candidate_of text < 71 → bytes_eq text (code_text (candidate_of text)) ≡ false) → class_of_text text ≡ None
not_found text never =
    none_found (bytes_eq text) class_codes [] (λ j h same. clash j (omega (arith, classes_count)) (rw (code_read rows j) at same))
  where
    clash : (j : ℕ) → j < 71 → bytes_eq text (code_text j) ≡ true → ⊥
    clash j l same =
        let leads = leads_alike text j l same in
        both_ways (bytes_eq text (code_text j)) (subst (λ (i : ℕ). bytes_eq text (code_text i) ≡ false) leads (never (omega (arith, leads)))) same
