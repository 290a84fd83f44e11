-- The nodes of extents are among the names where the triples fit them.
use Rattle.std.proofs.Common.{ℕ, suc, ◌≡◌, ◌&&◌, Bool, true, false, not, Option, Some, None, List, [], ◌∷◌, get_or, map, filter, refl, ap, subst, arith}
use Rattle.std.specs.List.{All}
use Rattle.std.specs.Option.{option_map}
use Rattle.std.proofs.lemmas.Bool.{false≢true}
use Rattle.std.proofs.lemmas.List.Elements.{All-from_recursion, All-nil, All-cons, All-filter}
use Rattle.rdf_terms.specs.declared.terms.Term.{Term}
use Rattle.rdf_terms.specs.declared.terms.Triple.{Triple}
use Rattle.rdf_terms.specs.Terms.{same_term}
use Rattle.rdf_terms.specs.Naming.{NameLists}
use Rattle.rdf_terms.specs.Fitting.{is_literal, is_iri, is_among, AllFit}
use Rattle.crm_type_check.specs.declared.Fault.{Fault}
use Rattle.boundary_orders.specs.Extents.{distinct, ends_in, kind_of, standings_of, extents_of}
use Rattle.boundary_orders.proofs.Covering.{all_given}

pub ends_of_five : (a b c d e : Bool) → (a && b && c && d && e) ≡ true → (c ≡ true) × (e ≡ true)
ends_of_five true true true true true h = (refl, refl)
ends_of_five true true true true false h = absurd (false≢true h)
ends_of_five true true true false e h = absurd (false≢true h)
ends_of_five true true false d e h = absurd (false≢true h)
ends_of_five true false c d e h = absurd (false≢true h)
ends_of_five false b c d e h = absurd (false≢true h)

ends_among : (names : NameLists) (ps : List (ℕ × Triple)) → AllFit names (map (λ (p : ℕ × Triple). p.1) ps) →
    All (λ (t : Term). is_among names t ≡ true) (ends_in ps)
ends_among names [] h = All-nil (λ (t : Term). is_among names t ≡ true)
ends_among names (p ∷ ps) h =
    let both : (is_among names p.1.s ≡ true) × (is_among names p.1.o ≡ true) =
    ends_of_five (not (is_literal p.1.s)) (is_iri p.1.p) (is_among names p.1.s) (is_among names p.1.p) (is_among names p.1.o) (h 0 p.1 (omega arith)) in
    All-cons (λ (t : Term). is_among names t ≡ true) p.1.s (p.1.o ∷ ends_in ps) both.0
    (All-cons (λ (t : Term). is_among names t ≡ true) p.1.o (ends_in ps) both.1
    (ends_among names ps (λ k d l. h (suc k) d (omega (arith, l)))))

distinct_all : (P : Term → Type 0) (ns : List Term) → All P ns → All P (distinct ns)
distinct_all P [] h = h
distinct_all P (n ∷ ns) h =
    All-cons P n (filter (λ (u : Term). not (same_term n u)) (distinct ns)) (h 0 n (omega arith))
    (All-filter (λ (u : Term). not (same_term n u)) P (distinct ns) (distinct_all P ns (λ k d l. h (suc k) d (omega (arith, l)))))

key_is : (t : Term) (o : Option Bool) (e : Term × Bool) → option_map (λ (b : Bool). (t, b)) o ≡ Some e → t ≡ e.0
key_is t None e h = absurd (let never : ⊥ = cc in never)
key_is t (Some b) e h = let same : (t, b) ≡ e = cc in ap (λ (x : Term × Bool). x.0) same

pub extents_fit : (names : NameLists) (triples : List (ℕ × Triple)) (faults : List Fault) → AllFit names (map (λ (p : ℕ × Triple). p.1) triples) →
    All (λ (e : Term × Bool). is_among names e.0 ≡ true) (extents_of names triples faults)
extents_fit names triples faults h =
    All-from_recursion (λ (e : Term × Bool). is_among names e.0 ≡ true) (extents_of names triples faults)
    (all_given (λ (t : Term). option_map (λ (b : Bool). (t, b)) (kind_of (standings_of names triples faults) t)) (λ (e : Term × Bool). is_among names e.0 ≡ true)
    (distinct (ends_in triples))
    (λ k d l e same.
    subst (λ (t : Term). is_among names t ≡ true)
    (key_is (get_or (distinct (ends_in triples)) k d) (kind_of (standings_of names triples faults) (get_or (distinct (ends_in triples)) k d)) e same)
    (distinct_all (λ (t : Term). is_among names t ≡ true) (ends_in triples) (ends_among names triples h) k d l)))
