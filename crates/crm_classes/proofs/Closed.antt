-- The closed list is the chain of direct parents, by computation over the table.
use Rattle.std.proofs.Common.{zero, suc, ◌≡◌, ℕ, List, [], ◌∷◌, Bool, true, ◌<◌, ◌≤◌, ◌&&◌, ◌||◌, ◌⊎◌, ◌↔◌, nat_eq, nat_lt, not, codes, bytes_eq, arith, inl, inr, refl, subst, ap, sym, ◌∙◌}
use Rattle.std.specs.Prelude.{slice_index_or}
use Rattle.std.specs.List.{list_any, list_all}
use Rattle.std.proofs.lemmas.Bool.{cases_eq, cases_lt, agree_below, agree_below_at, or_cases, or_left, or_right, eqb-true, eq-eqb, ltb-true, false≢true, and_parts, both_ways, not-true}
use Rattle.std.proofs.lemmas.List.{get_or_past}
use Rattle.crm_classes.specs.Table.{rows, above, parents}
use Rattle.crm_classes.specs.Classes.{code_text, parent_codes, is_direct, is_below, is_incompatible, e2, e52, e77, e92, IsParentChain, IsBelow}

-- a test passes at each number below n
abbrev pub all_below : ℕ → (ℕ → Bool) → Bool
all_below zero f = true
all_below (suc n) f = f n && all_below n f

pub all_below-at : (n : ℕ) (f : ℕ → Bool) → all_below n f ≡ true → (k : ℕ) → k < n → f k ≡ true
all_below-at zero f h k l = absurd (omega arith)
all_below-at (suc n) f h k l =
    let parts = and_parts (f n) (all_below n f) h in
    elim (cases_eq k n) [
      | inl same ↦ subst (λ (i : ℕ). f i ≡ true) (sym same) parts.0
      | inr other ↦ all_below-at n f parts.1 k (omega (arith, other))
    ]

-- two tests agree at each pair of numbers below n
abbrev pub agree : ℕ → (ℕ → ℕ → Bool) → (ℕ → ℕ → Bool) → Bool
agree n f g = all_below n (λ c. agree_below (f c) (g c) n)

pub agree-at : (n : ℕ) (f g : ℕ → ℕ → Bool) → agree n f g ≡ true → (c d : ℕ) → c < n → d < n → f c d ≡ g c d
agree-at n f g h c d in_c in_d = agree_below_at (f c) (g c) n d (all_below-at n (λ e. agree_below (f e) (g e) n) h c in_c) in_d

-- a direct parent, by number
abbrev pub is_parent : ℕ → ℕ → Bool
is_parent c d = list_any (λ p. nat_eq p d) (slice_index_or parents c [])

-- one step, or one step and then what is above
abbrev pub by_step : ℕ → ℕ → Bool
by_step c d = list_any (λ p. nat_eq p d || is_below p d) (slice_index_or parents c [])

direct_computed : agree 71 is_direct is_parent ≡ true
unfolding rows parents
direct_computed = refl

closed_computed : agree 71 is_below by_step ≡ true
unfolding parents above
closed_computed = refl

falling_computed : all_below 71 (λ c. list_all (λ p. nat_lt p c) (slice_index_or parents c [])) ≡ true
unfolding parents
falling_computed = refl

nameless_computed : all_below 71 (λ c. not (list_any (bytes_eq []) (parent_codes c))) ≡ true
unfolding rows
nameless_computed = refl

pub direct_is_parent : (c d : ℕ) → c < 71 → d < 71 → is_direct c d ≡ is_parent c d
direct_is_parent c d in_c in_d = agree-at 71 is_direct is_parent direct_computed c d in_c in_d

pub below_by_step : (c d : ℕ) → c < 71 → d < 71 → is_below c d ≡ by_step c d
below_by_step c d in_c in_d = agree-at 71 is_below by_step closed_computed c d in_c in_d

falling : (c p : ℕ) → c < 71 → list_any (λ q. nat_eq q p) (slice_index_or parents c []) ≡ true → p < c
falling c p in_c h =
    let all = all_below-at 71 (λ e. list_all (λ q. nat_lt q e) (slice_index_or parents e [])) falling_computed c in_c in
    each (slice_index_or parents c []) all h
  where
    each : (ps : List ℕ) → list_all (λ q. nat_lt q c) ps ≡ true → list_any (λ q. nat_eq q p) ps ≡ true → p < c
    each [] a e = absurd (false≢true e)
    each (x ∷ xs) a e =
        let parts = and_parts (nat_lt x c) (list_all (λ q. nat_lt q c) xs) a in
        elim (or_cases (nat_eq x p) (list_any (λ q. nat_eq q p) xs) e) [
          | inl here ↦ subst (λ (n : ℕ). n < c) (eqb-true x p here) (ltb-true x c parts.0)
          | inr later ↦ each xs parts.1 later
        ]

nameless : (e : ℕ) → 71 ≤ e → code_text e ≡ []
unfolding rows
nameless e past = ap (λ (row : List ℕ × List (List ℕ)). row.0) (get_or_past rows e ([], []) past)

-- a direct parent is a class
pub direct_in : (c d : ℕ) → c < 71 → is_direct c d ≡ true → d < 71
direct_in c d in_c h =
    elim (cases_lt d 71) [
      | inl fine ↦ fine
      | inr past ↦ absurd (both_ways (list_any (bytes_eq []) (parent_codes c))
          (not-true (list_any (bytes_eq []) (parent_codes c)) (all_below-at 71 (λ e. not (list_any (bytes_eq []) (parent_codes e))) nameless_computed c in_c))
          (subst (λ (t : List ℕ). list_any (bytes_eq t) (parent_codes c) ≡ true) (nameless d past) h))
    ]

-- what is above c by the closed list is above a direct parent, or one
any_cases : (ps : List ℕ) (d : ℕ) → list_any (λ p. nat_eq p d || is_below p d) ps ≡ true →
    (list_any (λ p. nat_eq p d) ps ≡ true) ⊎ ((p : ℕ) × (list_any (λ q. nat_eq q p) ps ≡ true) × (is_below p d ≡ true))
any_cases [] d h = absurd (false≢true h)
any_cases (x ∷ xs) d h =
    elim (or_cases (nat_eq x d || is_below x d) (list_any (λ p. nat_eq p d || is_below p d) xs) h) [
      | inl here ↦ elim (or_cases (nat_eq x d) (is_below x d) here) [
        | inl same ↦ inl (or_left (nat_eq x d) (list_any (λ p. nat_eq p d) xs) same)
        | inr under ↦ inr (x, or_left (nat_eq x x) (list_any (λ q. nat_eq q x) xs) (eq-eqb x x refl), under)
      ]
      | inr later ↦ elim (any_cases xs d later) [
        | inl same ↦ inl (or_right (nat_eq x d) (list_any (λ p. nat_eq p d) xs) same)
        | inr found ↦ inr (found.0, or_right (nat_eq x found.0) (list_any (λ q. nat_eq q found.0) xs) found.1, found.2)
      ]
    ]

any_from : (ps : List ℕ) (p d : ℕ) → list_any (λ q. nat_eq q p) ps ≡ true → (nat_eq p d || is_below p d) ≡ true →
    list_any (λ q. nat_eq q d || is_below q d) ps ≡ true
any_from [] p d h e = absurd (false≢true h)
any_from (x ∷ xs) p d h e =
    elim (or_cases (nat_eq x p) (list_any (λ q. nat_eq q p) xs) h) [
      | inl here ↦ or_left (nat_eq x d || is_below x d) (list_any (λ q. nat_eq q d || is_below q d) xs)
          (subst (λ (n : ℕ). (nat_eq n d || is_below n d) ≡ true) (sym (eqb-true x p here)) e)
      | inr later ↦ or_right (nat_eq x d || is_below x d) (list_any (λ q. nat_eq q d || is_below q d) xs) (any_from xs p d later e)
    ]

-- each pair of the closed list has a chain
chain_from : (n c d : ℕ) → c < n → c < 71 → d < 71 → is_below c d ≡ true → IsBelow c d
chain_from zero c d l in_c in_d h = absurd (omega arith)
chain_from (suc n) c d l in_c in_d h =
    elim (any_cases (slice_index_or parents c []) d (sym (below_by_step c d in_c in_d) ∙ h)) [
      | inl one ↦ ([], direct_is_parent c d in_c in_d ∙ one)
      | inr more ↦
          (let lower : more.0 < c = falling c more.0 in_c more.1 in
          let in_p : more.0 < 71 = omega arith in
          let rest = chain_from n more.0 d (omega arith) in_p in_d more.2 in
          (more.0 ∷ rest.0, (direct_is_parent c more.0 in_c in_p ∙ more.1, rest.1)))
    ]

-- each chain ends at a class of the closed list
listed_from : (between : List ℕ) (c d : ℕ) → c < 71 → d < 71 → IsParentChain c between d → is_below c d ≡ true
listed_from [] c d in_c in_d h =
    below_by_step c d in_c in_d
    ∙ any_from (slice_index_or parents c []) d d (sym (direct_is_parent c d in_c in_d) ∙ h) (or_left (nat_eq d d) (is_below d d) (eq-eqb d d refl))
listed_from (m ∷ ms) c d in_c in_d h =
    let in_m = direct_in c m in_c h.0 in
    below_by_step c d in_c in_d
    ∙ any_from (slice_index_or parents c []) m d (sym (direct_is_parent c m in_c in_m) ∙ h.0)
    (or_right (nat_eq m d) (is_below m d) (listed_from ms m d in_m in_d h.1))

pub below_by_chain : (c d : ℕ) → c < 71 → d < 71 → (is_below c d ≡ true) ↔ IsBelow c d
below_by_chain c d in_c in_d =
    (λ h. chain_from 71 c d in_c in_c in_d h, λ h. listed_from h.0 c d in_c in_d h.1)

pub below_answered : (r : Bool) (c d e f : ℕ) (list : List ℕ) → r ≡ list_any (λ y. nat_eq y f) list → list ≡ slice_index_or above e [] →
    e ≡ c → f ≡ d → e < 71 → f < 71 → (r ≡ true) ↔ IsBelow c d
below_answered r c d e f list is from same_c same_d in_e in_f =
    let test : r ≡ is_below c d = is ∙ ap (λ (l : List ℕ). list_any (λ y. nat_eq y f) l) from
    ∙ ap (λ (n : ℕ). list_any (λ y. nat_eq y f) (slice_index_or above n [])) same_c
    ∙ ap (λ (n : ℕ). list_any (λ y. nat_eq y n) (slice_index_or above c [])) same_d in
    let both = below_by_chain c d (omega arith) (omega arith) in
    (λ h. both.0 (sym test ∙ h), λ h. test ∙ both.1 h)

pub direct_answered : (r : Bool) (c d e f : ℕ) (list : List ℕ) → r ≡ list_any (λ y. nat_eq y f) list → list ≡ slice_index_or parents e [] →
    e ≡ c → f ≡ d → e < 71 → f < 71 → r ≡ is_direct c d
direct_answered r c d e f list is from same_c same_d in_e in_f =
    is ∙ ap (λ (l : List ℕ). list_any (λ y. nat_eq y f) l) from
    ∙ ap (λ (n : ℕ). list_any (λ y. nat_eq y f) (slice_index_or parents n [])) same_c
    ∙ ap (λ (n : ℕ). list_any (λ y. nat_eq y n) (slice_index_or parents c [])) same_d
    ∙ sym (direct_is_parent c d (omega arith) (omega arith))

-- no class is incompatible with itself, and each family's head has its code
apart_computed : all_below 71 (λ c. not (is_incompatible c c)) ≡ true
unfolding above
apart_computed = refl

pub never_with_itself : (c : ℕ) → c < 71 → not (is_incompatible c c) ≡ true
never_with_itself c in_c = all_below-at 71 (λ e. not (is_incompatible e e)) apart_computed c in_c

heads : bytes_eq (code_text e2) (codes "E2") && bytes_eq (code_text e52) (codes "E52") && bytes_eq (code_text e77) (codes "E77") && bytes_eq (code_text e92) (codes "E92") ≡ true
unfolding rows
heads = refl
