-- Triples of a pool that fit names.
use Rattle.std.proofs.Common.{◌≡◌, ℕ, suc, true, Option, Some, None, List, [], ◌∷◌, map, nat_eq, arith, refl, sym, ap, subst, ◌∙◌, inl, inr}
use Rattle.std.proofs.lemmas.Bool.{cases_Bool, cond-true, cond-false}
use Rattle.rdf_terms.specs.declared.terms.Triple.{Triple}
use Rattle.rdf_terms.specs.Naming.{NameLists}
use Rattle.rdf_terms.specs.Fitting.{fits, AllFit}
use Rattle.triple_pool.specs.Pool.{triple_of, number_from}

some_alike : (t u : Triple) → ◌≡◌ {A = Option Triple} (Some t) (Some u) → t ≡ u
some_alike t u e = cc

none_some : (t : Triple) → ◌≡◌ {A = Option Triple} None (Some t) → ⊥
none_some t e = cc

-- a triple that a number finds fits where all do
pub found_fits : (names : NameLists) (pairs : List (ℕ × Triple)) (i : ℕ) (t : Triple) → AllFit names (map (λ (p : ℕ × Triple). p.1) pairs) →
    triple_of i pairs ≡ Some t → fits names t ≡ true
found_fits names [] i t all e = absurd (none_some t e)
found_fits names (p ∷ ps) i t all e = elim (cases_Bool (nat_eq p.0 i)) [
  | inl yea ↦
      subst (λ (u : Triple). fits names u ≡ true) (some_alike p.1 t (sym (cond-true (nat_eq p.0 i) (Some p.1) (triple_of i ps) yea) ∙ e)) (all 0 p.1 (omega arith))
  | inr nay ↦
      found_fits names ps i t (λ k d l. all (suc k) d (omega (arith, l))) (sym (cond-false (nat_eq p.0 i) (Some p.1) (triple_of i ps) nay) ∙ e)
]

-- the triples of a pool that was built are those of the list
pub numbered_triples : (n : ℕ) (triples : List Triple) → map (λ (p : ℕ × Triple). p.1) (number_from n triples) ≡ triples
numbered_triples n [] = refl
numbered_triples n (t ∷ ts) = ap (λ (r : List Triple). t ∷ r) (numbered_triples (suc n) ts)
