-- The numbers of periods among those of extents.
use Rattle.std.proofs.Common.{ℕ, ◌+◌, ◌<◌, ◌≤◌, List, [], ◌∷◌, length, suc, arith, true, false}
use Rattle.std.specs.Prelude.{Bool, cond}
use Rattle.std.specs.List.{All}
use Rattle.std.proofs.lemmas.List.Elements.{All-nil, All-cons}
use Rattle.rdf_terms.specs.declared.terms.Term.{Term}
use Rattle.boundary_orders.specs.Dossiers.{periods_from}

one_below : (m n : ℕ) (ns : List ℕ) (b : Bool) → n < m → All (λ k. k < m) ns → All (λ k. k < m) (cond b (n ∷ ns) ns)
one_below m n ns true lt h = All-cons (λ k. k < m) n ns lt h
one_below m n ns false lt h = h

below : (m n : ℕ) (es : List (Term × Bool)) → n + length es ≤ m → All (λ k. k < m) (periods_from n es)
below m n [] le = All-nil (λ k. k < m)
below m n (e ∷ es) le = one_below m n (periods_from (suc n) es) e.1 (omega (arith, le)) (below m (suc n) es (omega (arith, le)))

-- each is that of an extent
pub periods_within : (es : List (Term × Bool)) → All (λ k. k < length es) (periods_from 0 es)
periods_within es = below (length es) 0 es (omega arith)

one_more : (n m : ℕ) (ns : List ℕ) (b : Bool) → length ns ≤ m → length (cond b (n ∷ ns) ns) ≤ suc m
one_more n m ns true le = omega (arith, le)
one_more n m ns false le = omega (arith, le)

at_most : (n : ℕ) (es : List (Term × Bool)) → length (periods_from n es) ≤ length es
at_most n [] = omega arith
at_most n (e ∷ es) = one_more n (length es) (periods_from (suc n) es) e.1 (at_most (suc n) es)

-- they are no more than the extents
pub few_periods : (es : List (Term × Bool)) → length (periods_from 0 es) ≤ length es
few_periods es = at_most 0 es
