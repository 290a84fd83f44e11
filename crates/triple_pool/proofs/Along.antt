-- What is found along a walk is what the whole list has: questions along one are questions to the other.
use Rattle.std.proofs.Common.{suc, ◌≡◌, ℕ, ◌<◌, ◌≤◌, ◌&&◌, ◌||◌, Bool, true, false, Option, Some, List, [], ◌∷◌, map, filter, nat_eq, arith, refl, sym, ap, ap₂, ◌∙◌}
use Rattle.std.specs.List.{list_any}
use Rattle.std.proofs.lemmas.Bool.{cond-true, cond-false, eq-eqb, ne_eqb}
use Rattle.rdf_terms.specs.declared.terms.Term.{Term}
use Rattle.rdf_terms.specs.declared.terms.Triple.{Triple}
use Rattle.triple_pool.specs.declared.Place.{Place}
use Rattle.triple_pool.specs.Pool.{numbers_with, triple_of, holds, has_term, IsNumberedFrom}

-- a number found behind a head that is smaller is found in the tail
behind : (p : ℕ × Triple) (ps : List (ℕ × Triple)) (i : ℕ) → p.0 < i → triple_of i (p ∷ ps) ≡ triple_of i ps
behind p ps i l = cond-false (nat_eq p.0 i) (Some p.1) (triple_of i ps) (ne_eqb p.0 i (omega arith))

-- the numbers of a list from n on are n or greater, so a question to a longer list with smaller heads is the same
alike : (test : Triple → Bool) (place : Place) (node : Term) (n : ℕ) (ps whole : List (ℕ × Triple)) → IsNumberedFrom n ps →
    ((i : ℕ) → n ≤ i → triple_of i whole ≡ triple_of i ps) →
    list_any (λ i. holds test (triple_of i whole)) (numbers_with place node ps) ≡ list_any (λ p. has_term place node p.1 && test p.1) ps
alike test place node n [] whole h same = refl
alike test place node n (p ∷ ps) whole h same =
    let rest = alike test place node (suc p.0) ps whole h.1 (λ i l. same i (omega (arith, h.0)) ∙ behind p ps i (omega arith)) in
    let here : triple_of p.0 whole ≡ Some p.1 = same p.0 h.0 ∙ cond-true (nat_eq p.0 p.0) (Some p.1) (triple_of p.0 ps) (eq-eqb p.0 p.0 refl) in
    by (has_term place node p.1) refl here rest
  where
    by : (b : Bool) → has_term place node p.1 ≡ b → triple_of p.0 whole ≡ Some p.1 →
        list_any (λ i. holds test (triple_of i whole)) (numbers_with place node ps) ≡ list_any (λ q. has_term place node q.1 && test q.1) ps →
        list_any (λ i. holds test (triple_of i whole)) (numbers_with place node (p ∷ ps)) ≡ ((has_term place node p.1 && test p.1) || list_any (λ q. has_term place node q.1 && test q.1) ps)
    by true e here rest =
        ap (λ (l : List (ℕ × Triple)). list_any (λ i. holds test (triple_of i whole)) (map (λ (q : ℕ × Triple). q.0) l))
        (cond-true (has_term place node p.1) (p ∷ filter (λ (q : ℕ × Triple). has_term place node q.1) ps) (filter (λ (q : ℕ × Triple). has_term place node q.1) ps) e)
        ∙ ap₂ (λ (x y : Bool). x || y) (ap (holds test) here) rest
        ∙ ap (λ (c : Bool). (c && test p.1) || list_any (λ q. has_term place node q.1 && test q.1) ps) (sym e)
    by false e here rest =
        ap (λ (l : List (ℕ × Triple)). list_any (λ i. holds test (triple_of i whole)) (map (λ (q : ℕ × Triple). q.0) l))
        (cond-false (has_term place node p.1) (p ∷ filter (λ (q : ℕ × Triple). has_term place node q.1) ps) (filter (λ (q : ℕ × Triple). has_term place node q.1) ps) e)
        ∙ rest
        ∙ ap (λ (c : Bool). (c && test p.1) || list_any (λ q. has_term place node q.1 && test q.1) ps) (sym e)

pub any_along : (test : Triple → Bool) (place : Place) (node : Term) (ps : List (ℕ × Triple)) → IsNumberedFrom 0 ps →
    list_any (λ i. holds test (triple_of i ps)) (numbers_with place node ps) ≡ list_any (λ p. has_term place node p.1 && test p.1) ps
any_along test place node ps h = alike test place node 0 ps ps h (λ i l. refl)

-- the triples along a walk are those of the list that have the term at the place, in its order
found_alike : (place : Place) (node : Term) (n : ℕ) (ps whole : List (ℕ × Triple)) → IsNumberedFrom n ps →
    ((i : ℕ) → n ≤ i → triple_of i whole ≡ triple_of i ps) →
    map (λ i. triple_of i whole) (numbers_with place node ps) ≡ map (λ (p : ℕ × Triple). Some p.1) (filter (λ (p : ℕ × Triple). has_term place node p.1) ps)
found_alike place node n [] whole h same = refl
found_alike place node n (p ∷ ps) whole h same =
    let rest = found_alike place node (suc p.0) ps whole h.1 (λ i l. same i (omega (arith, h.0)) ∙ behind p ps i (omega arith)) in
    let here : triple_of p.0 whole ≡ Some p.1 = same p.0 h.0 ∙ cond-true (nat_eq p.0 p.0) (Some p.1) (triple_of p.0 ps) (eq-eqb p.0 p.0 refl) in
    by (has_term place node p.1) refl here rest
  where
    by : (b : Bool) → has_term place node p.1 ≡ b → triple_of p.0 whole ≡ Some p.1 →
        map (λ i. triple_of i whole) (numbers_with place node ps) ≡ map (λ (q : ℕ × Triple). Some q.1) (filter (λ (q : ℕ × Triple). has_term place node q.1) ps) →
        map (λ i. triple_of i whole) (numbers_with place node (p ∷ ps)) ≡ map (λ (q : ℕ × Triple). Some q.1) (filter (λ (q : ℕ × Triple). has_term place node q.1) (p ∷ ps))
    by true e here rest =
        ap (λ (l : List (ℕ × Triple)). map (λ i. triple_of i whole) (map (λ (q : ℕ × Triple). q.0) l))
        (cond-true (has_term place node p.1) (p ∷ filter (λ (q : ℕ × Triple). has_term place node q.1) ps) (filter (λ (q : ℕ × Triple). has_term place node q.1) ps) e)
        ∙ ap₂ (λ (x : Option Triple) (y : List (Option Triple)). x ∷ y) here rest
        ∙ sym (ap (λ (l : List (ℕ × Triple)). map (λ (q : ℕ × Triple). Some q.1) l)
        (cond-true (has_term place node p.1) (p ∷ filter (λ (q : ℕ × Triple). has_term place node q.1) ps) (filter (λ (q : ℕ × Triple). has_term place node q.1) ps) e))
    by false e here rest =
        ap (λ (l : List (ℕ × Triple)). map (λ i. triple_of i whole) (map (λ (q : ℕ × Triple). q.0) l))
        (cond-false (has_term place node p.1) (p ∷ filter (λ (q : ℕ × Triple). has_term place node q.1) ps) (filter (λ (q : ℕ × Triple). has_term place node q.1) ps) e)
        ∙ rest
        ∙ sym (ap (λ (l : List (ℕ × Triple)). map (λ (q : ℕ × Triple). Some q.1) l)
        (cond-false (has_term place node p.1) (p ∷ filter (λ (q : ℕ × Triple). has_term place node q.1) ps) (filter (λ (q : ℕ × Triple). has_term place node q.1) ps) e))

pub found_along : (place : Place) (node : Term) (ps : List (ℕ × Triple)) → IsNumberedFrom 0 ps →
    map (λ i. triple_of i ps) (numbers_with place node ps) ≡ map (λ (p : ℕ × Triple). Some p.1) (filter (λ (p : ℕ × Triple). has_term place node p.1) ps)
found_along place node ps h = found_alike place node 0 ps ps h (λ i l. refl)
