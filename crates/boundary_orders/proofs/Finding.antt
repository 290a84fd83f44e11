-- Nodes that are looked for by their place among the extents, and the numbers of the periods.
use Rattle.std.proofs.Common.{ℕ, zero, suc, ◌≡◌, ◌<◌, ◌≤◌, ◌+◌, ◌-◌, ◌++◌, Bool, true, false, cond, Option, Some, None, List, [], ◌∷◌, map, position, slice_get, get_or, length, take, refl, sym, ap, ◌∙◌, arith, nat_lt, inl, inr}
use Rattle.std.proofs.Math.Path.{fun_ext}
use Rattle.std.specs.List.{list_any, position_or_len}
use Rattle.std.proofs.lemmas.Option.{slice_get-get_or}
use Rattle.std.proofs.lemmas.List.{length-take-le, length-append}
use Rattle.std.proofs.lemmas.Bool.{cases_lt, cond-true, cond-false, lt-ltb, le-ltb}
use Rattle.rdf_terms.specs.declared.terms.Term.{Term}
use Rattle.rdf_terms.specs.contracts.terms.TermPartialEq.TheImpl.{ghosts}
use Rattle.rdf_terms.specs.Terms.{same_term}
use Rattle.rdf_terms.proofs.TermLemmas.{same_term_is}
use Rattle.rdf_terms.proofs.Numbered.{found_map}
use Rattle.order_laws.specs.declared.Order.{Order}
use Rattle.order_core.specs.Sets.{completed, extent_orders, date_orders}
use Rattle.boundary_orders.specs.Orders.{is_numbered, extent_number}
use Rattle.boundary_orders.specs.Dossiers.{periods_from, number_where}
use Rattle.boundary_orders.proofs.Growing.{take_grow}
use Rattle.boundary_orders.proofs.Within.{place_within}

test_of : (n : Term) → ghosts.eq n ≡ same_term n
test_of n = fun_ext (λ t. same_term_is n t)

-- the place of a node among the keys of the table
pub place_found : (n : Term) (es : List (Term × Bool)) →
    position (ghosts.eq n) (map (λ (e : Term × Bool). e.0) es) ≡ position (λ (e : Term × Bool). same_term n e.0) es
place_found n es =
    ap (λ (test : Term → Bool). position test (map (λ (e : Term × Bool). e.0) es)) (test_of n)
    ∙ found_map (same_term n) (λ (e : Term × Bool). e.0) es

place_is : {X : Type 0} (p : X → Bool) (xs : List X) (k : ℕ) → position p xs ≡ Some k → k ≡ position_or_len p xs
place_is p xs k e =
    elim (cases_lt (position_or_len p xs) (length xs)) [
      | inl l ↦
          (let found : Some (position_or_len p xs) ≡ Some k =
          sym (cond-true (nat_lt (position_or_len p xs) (length xs)) (Some (position_or_len p xs)) None (lt-ltb (position_or_len p xs) (length xs) l)) ∙ e in
          let same : k ≡ position_or_len p xs = cc in
          same)
      | inr l ↦ absurd (
          let none : None ≡ Some k =
          sym (cond-false (nat_lt (position_or_len p xs) (length xs)) (Some (position_or_len p xs)) None (le-ltb (position_or_len p xs) (length xs) l)) ∙ e in
          let never : ⊥ = cc in
          never)
    ]

pub number_found : (n : Term) (es : List (Term × Bool)) (k : ℕ) → position (ghosts.eq n) (map (λ (e : Term × Bool). e.0) es) ≡ Some k → k ≡ extent_number es n
number_found n es k e = place_is (λ (x : Term × Bool). same_term n x.0) es k (sym (place_found n es) ∙ e)

no_place : {X : Type 0} (p : X → Bool) (xs : List X) → position p xs ≡ None → list_any p xs ≡ true → ⊥
no_place p xs e h =
    let none : Some (position_or_len p xs) ≡ None =
    sym (cond-true (nat_lt (position_or_len p xs) (length xs)) (Some (position_or_len p xs)) None (lt-ltb (position_or_len p xs) (length xs) (place_within p xs h))) ∙ e in
    let never : ⊥ = cc in
    never

-- an extent has a place
pub number_missing : (n : Term) (es : List (Term × Bool)) → position (ghosts.eq n) (map (λ (e : Term × Bool). e.0) es) ≡ None → is_numbered es n ≡ true → ⊥
number_missing n es e h = no_place (λ (x : Term × Bool). same_term n x.0) es (sym (place_found n es) ∙ e) h

-- one extent more
pub periods_push : (n : ℕ) (es : List (Term × Bool)) (e : Term × Bool) →
    periods_from n (es ++ e ∷ []) ≡ periods_from n es ++ cond e.1 ((n + length es) ∷ []) []
periods_push n [] e = ap (λ (k : ℕ). cond e.1 (k ∷ []) []) (let plus : n ≡ n + 0 = omega arith in plus)
periods_push n (x ∷ es) e =
    ap (λ (rest : List ℕ). cond x.1 (n ∷ rest) rest)
    (periods_push (suc n) es e ∙ ap (λ (k : ℕ). periods_from (suc n) es ++ cond e.1 (k ∷ []) []) (let plus : suc n + length es ≡ n + suc (length es) = omega arith in plus))
    ∙ put x.1
  where
    put : (b : Bool) → cond b (n ∷ (periods_from (suc n) es ++ cond e.1 ((n + suc (length es)) ∷ []) [])) (periods_from (suc n) es ++ cond e.1 ((n + suc (length es)) ∷ []) [])
        ≡ cond b (n ∷ periods_from (suc n) es) (periods_from (suc n) es) ++ cond e.1 ((n + suc (length es)) ∷ []) []
    put true = refl
    put false = refl

extent_count : (n : ℕ) → length (extent_orders n) ≡ n
extent_count zero = refl
extent_count (suc k) = length-append (extent_orders k) _ ∙ omega (arith, extent_count k)

date_count : (n : ℕ) → length (date_orders n) ≡ n
date_count zero = refl
date_count (suc k) = length-append (date_orders k) _ ∙ omega (arith, date_count k)

-- how many orders there are
pub completed_count : (extents dates : ℕ) (statements : List Order) → length (completed extents dates statements) ≡ length statements + (extents + (dates - 1))
completed_count extents dates statements =
    length-append statements (extent_orders extents ++ date_orders (dates - 1))
    ∙ ap (λ (k : ℕ). length statements + k) (length-append (extent_orders extents) (date_orders (dates - 1)) ∙ omega (arith, extent_count extents, date_count (dates - 1)))

-- one extent more, among the first of them
pub periods_grow : (es : List (Term × Bool)) (k : ℕ) (d : Term × Bool) → k < length es →
    periods_from 0 (take k es) ++ number_where k (slice_get es k) ≡ periods_from 0 (take (k + 1) es)
periods_grow es k d l =
    let within : k ≤ length es = omega arith in
    let place : k ≡ 0 + length (take k es) = omega (arith, length-take-le k es within) in
    ap (λ (o : Option (Term × Bool)). periods_from 0 (take k es) ++ number_where k o) (slice_get-get_or es k d l)
    ∙ ap (λ (n : ℕ). periods_from 0 (take k es) ++ cond (get_or es k d).1 (n ∷ []) []) place
    ∙ sym (periods_push 0 (take k es) (get_or es k d))
    ∙ ap (λ (xs : List (Term × Bool)). periods_from 0 xs) (take_grow es es k d refl l)
