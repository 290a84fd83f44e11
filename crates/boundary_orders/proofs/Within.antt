-- The ends of statements are among the extents.
use Rattle.std.proofs.Common.{ℕ, zero, suc, ◌≡◌, ◌<◌, ◌+◌, ◌||◌, Bool, true, false, cond, not, Some, None, List, [], ◌∷◌, get_or, length, ◌∙◌, arith}
use Rattle.std.specs.List.{All, list_any, flat_map, position_or_len}
use Rattle.std.proofs.lemmas.Bool.{false≢true, cond-true}
use Rattle.std.proofs.lemmas.List.Folds.{list_any-append}
use Rattle.rdf_terms.specs.declared.terms.Term.{Term}
use Rattle.rdf_terms.specs.declared.terms.Triple.{Triple}
use Rattle.rdf_terms.specs.Terms.{same_term}
use Rattle.rdf_terms.specs.Naming.{NameLists}
use Rattle.rdf_terms.proofs.TermLemmas.{same_term-refl}
use Rattle.crm_type_check.specs.declared.Fault.{Fault}
use Rattle.boundary_orders.specs.declared.statements.Statement.{Statement}
use Rattle.boundary_orders.specs.Statements.{is_dated, statements_of}
use Rattle.boundary_orders.specs.Extents.{ends_of, ends_in, by_type, is_extent, is_period, kind_of, standings_of, extents_of}
use Rattle.boundary_orders.specs.Orders.{is_numbered, AreNumbered}
use Rattle.boundary_orders.proofs.Covering.{stands, BothStand, statements_stand, or_left, or_right}
use Rattle.boundary_orders.proofs.Numbering.{node_listed}

-- what some item passes has a place
pub place_within : {X : Type 0} (p : X → Bool) (xs : List X) → list_any p xs ≡ true → position_or_len p xs < length xs
place_within p [] h = absurd (false≢true h)
place_within {X} p (x ∷ xs) h = by (p x) h (place_within p xs)
  where
    by : (b : Bool) → (b || list_any p xs) ≡ true → (list_any p xs ≡ true → position_or_len p xs < length xs) →
        cond (not b) (1 + position_or_len p xs) 0 < suc (length xs)
    by true h rest = omega arith
    by false h rest = let l : position_or_len p xs < length xs = rest h in omega arith

pub any_pieces : {X Y : Type 0} (test : Y → Bool) (f : X → List Y) (xs : List X) (k : ℕ) (d : X) → k < length xs →
    list_any test (f (get_or xs k d)) ≡ true → list_any test (flat_map f xs) ≡ true
any_pieces test f [] k d l h = absurd (omega arith)
any_pieces test f (x ∷ xs) zero d l h = list_any-append test (f x) (flat_map f xs) ∙ or_left (list_any test (f x)) (list_any test (flat_map f xs)) h
any_pieces test f (x ∷ xs) (suc k) d l h =
    list_any-append test (f x) (flat_map f xs) ∙ or_right (list_any test (f x)) (list_any test (flat_map f xs)) (any_pieces test f xs k d (omega (arith, l)) h)

abbrev ends_by : Term → Term → Bool → Bool → Bool → List (Term × Bool)
ends_by a b p q dated = cond dated ((a, false) ∷ []) ((a, p) ∷ (b, q) ∷ [])

domain_among : (a b : Term) (p q dated : Bool) → list_any (λ (e : Term × Bool). same_term e.0 a) (ends_by a b p q dated) ≡ true
domain_among a b p q true = or_left (same_term a a) false (same_term-refl a)
domain_among a b p q false = or_left (same_term a a) (same_term b a || false) (same_term-refl a)

range_among : (a b : Term) (p q dated : Bool) → dated ≡ false → list_any (λ (e : Term × Bool). same_term e.0 b) (ends_by a b p q dated) ≡ true
range_among a b p q true e = absurd (false≢true (let other : false ≡ true = cc in other))
range_among a b p q false e = or_right (same_term a b) (same_term b b || false) (or_left (same_term b b) false (same_term-refl b))

kind_known : (standings : List (Term × Bool)) (node : Term) → is_extent standings node ≡ true → kind_of standings node ≡ Some (is_period standings node)
kind_known standings node h = cond-true (is_extent standings node) (Some (is_period standings node)) None h

end_numbered : (names : NameLists) (triples : List (ℕ × Triple)) (faults : List Fault) (k : ℕ) (d : ℕ × Statement) →
    k < length (statements_of names triples faults) → (node : Term) → stands triples node ≡ true →
    list_any (λ (e : Term × Bool). same_term e.0 node) (ends_of (get_or (statements_of names triples faults) k d).1) ≡ true →
    is_numbered (extents_of names triples faults) node ≡ true
end_numbered names triples faults k d l node there h =
    node_listed (kind_of (standings_of names triples faults)) (ends_in triples) node (is_period (standings_of names triples faults) node)
    (kind_known (standings_of names triples faults) node
    (list_any-append (λ (e : Term × Bool). same_term e.0 node) (flat_map (λ (s : ℕ × Statement). ends_of s.1) (statements_of names triples faults))
    (flat_map (by_type names faults) triples)
    ∙ or_left (list_any (λ (e : Term × Bool). same_term e.0 node) (flat_map (λ (s : ℕ × Statement). ends_of s.1) (statements_of names triples faults)))
    (list_any (λ (e : Term × Bool). same_term e.0 node) (flat_map (by_type names faults) triples))
    (any_pieces (λ (e : Term × Bool). same_term e.0 node) (λ (s : ℕ × Statement). ends_of s.1) (statements_of names triples faults) k d l h)))
    there

pub extents_cover : (names : NameLists) (triples : List (ℕ × Triple)) (faults : List Fault) →
    All (λ (s : ℕ × Statement). AreNumbered (extents_of names triples faults) s.1) (statements_of names triples faults)
extents_cover names triples faults = λ k d l.
    let both : BothStand triples (get_or (statements_of names triples faults) k d).1 = statements_stand names triples faults k d l in
    record {
      domain = end_numbered names triples faults k d l (get_or (statements_of names triples faults) k d).1.domain both.domain
          (domain_among (get_or (statements_of names triples faults) k d).1.domain (get_or (statements_of names triples faults) k d).1.range _ _
          (is_dated (get_or (statements_of names triples faults) k d).1.code));
      range = λ plain. end_numbered names triples faults k d l (get_or (statements_of names triples faults) k d).1.range both.range
          (range_among (get_or (statements_of names triples faults) k d).1.domain (get_or (statements_of names triples faults) k d).1.range _ _
          (is_dated (get_or (statements_of names triples faults) k d).1.code) plain);
    }
