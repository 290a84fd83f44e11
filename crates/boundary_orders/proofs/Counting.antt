-- How many extents, dates and orders there can be, by the count of triples.
use Rattle.std.proofs.Common.{ℕ, suc, ℤ, ◌≡◌, ◌≤◌, ◌+◌, ◌*◌, Bool, true, false, cond, not, Option, Some, None, List, [], ◌∷◌, length, filter, refl, arith}
use Rattle.std.specs.List.{filter_map, flat_map, fold, cons_option}
use Rattle.std.specs.Ordering.{int_cmp, match_ordering}
use Rattle.std.specs.BTreeSet.{insert_key}
use Rattle.std.specs.declared.cmp.Ordering.{Ordering}
use Rattle.std.specs.declared.cmp.Ordering.TheVariants.{Less, Equal, Greater}
use Rattle.std.proofs.lemmas.List.{length-append, length-map}
use Rattle.rdf_terms.specs.declared.terms.Term.{Term}
use Rattle.rdf_terms.specs.declared.terms.Triple.{Triple}
use Rattle.rdf_terms.specs.Terms.{same_term}
use Rattle.rdf_terms.specs.Naming.{NameLists}
use Rattle.crm_type_check.specs.declared.Fault.{Fault}
use Rattle.boundary_orders.specs.declared.statements.Statement.{Statement}
use Rattle.boundary_orders.specs.Statements.{statement_of, statements_of}
use Rattle.boundary_orders.specs.Extents.{distinct, ends_in, rows_by, kind_of, standings_of, extents_of}
use Rattle.std.specs.Option.{option_map}
use Rattle.boundary_orders.specs.Orders.{instant_of, dates_of, order_by, orders_with, orders_by, extent_number, range_number, rules_of, statement_orders}
use Rattle.boundary_orders.proofs.Ruling.{rules_few}

given_few : {X Y : Type 0} (h : X → Option Y) (xs : List X) → length (filter_map h xs) ≤ length xs
given_few h [] = omega arith
given_few {X} {Y} h (x ∷ xs) = by (h x) (given_few h xs)
  where
    by : (o : Option Y) → length (filter_map h xs) ≤ length xs → length (cons_option o (filter_map h xs)) ≤ suc (length xs)
    by None l = omega arith
    by (Some y) l = omega arith

pub statements_few : (names : NameLists) (triples : List (ℕ × Triple)) (faults : List Fault) → length (statements_of names triples faults) ≤ length triples
statements_few names triples faults = given_few (statement_of names triples faults) triples

kept_few : {X : Type 0} (test : X → Bool) (xs : List X) → length (filter test xs) ≤ length xs
kept_few test [] = omega arith
kept_few {X} test (x ∷ xs) = by (test x) (kept_few test xs)
  where
    by : (b : Bool) → length (filter test xs) ≤ length xs → length (cond b (x ∷ filter test xs) (filter test xs)) ≤ suc (length xs)
    by true l = omega arith
    by false l = omega arith

distinct_few : (ns : List Term) → length (distinct ns) ≤ length ns
distinct_few [] = omega arith
distinct_few (n ∷ ns) = omega (arith, kept_few (λ (u : Term). not (same_term n u)) (distinct ns), distinct_few ns)

end_count : (ps : List (ℕ × Triple)) → length (ends_in ps) ≡ 2 * length ps
end_count [] = refl
end_count (p ∷ ps) = omega (arith, end_count ps)

rows_few : (kind : Term → Option Bool) (ns : List Term) → length (rows_by kind ns) ≤ length ns
rows_few kind ns = omega (arith, given_few (λ (t : Term). row t) (distinct ns), distinct_few ns)
  where
    row : Term → Option (Term × Bool)
    row t = option_map (λ (b : Bool). (t, b)) (kind t)

pub extents_few : (names : NameLists) (triples : List (ℕ × Triple)) (faults : List Fault) → length (extents_of names triples faults) ≤ 2 * length triples
extents_few names triples faults = omega (arith, rows_few (kind_of (standings_of names triples faults)) (ends_in triples), end_count triples)

insert_few : (ks : List ℤ) (u : ℤ) → length (insert_key int_cmp ks u) ≤ length ks + 1
insert_few [] u = omega arith
insert_few (x ∷ xs) u = by (int_cmp u x) (insert_few xs u)
  where
    by : (o : Ordering) → length (insert_key int_cmp xs u) ≤ length xs + 1 →
        length (match_ordering o (u ∷ x ∷ xs) (x ∷ xs) (x ∷ insert_key int_cmp xs u)) ≤ suc (length xs) + 1
    by Less l = omega arith
    by Equal l = omega arith
    by Greater l = omega arith

fold_few : (ts ks : List ℤ) → length (fold (insert_key int_cmp) ks ts) ≤ length ks + length ts
fold_few [] ks = omega arith
fold_few (u ∷ ts) ks = omega (arith, fold_few ts (insert_key int_cmp ks u), insert_few ks u)

pub dates_few : (names : NameLists) (ss : List (ℕ × Statement)) → length (dates_of names ss) ≤ length ss
dates_few names ss =
    omega (arith, fold_few (filter_map (λ (s : ℕ × Statement). instant_of names s.1) ss) [], given_few (λ (s : ℕ × Statement). instant_of names s.1) ss)

orders_with_few : (s : ℕ × Statement) (domain : ℕ) (range : Option ℕ) → length (orders_with s domain range) ≤ 4
orders_with_few s domain None = omega arith
orders_with_few s domain (Some range) = omega (arith, length-map (rules_of s.1.code) (order_by s.0 domain range), rules_few s.1.code)

pieces_few : {X Y : Type 0} (f : X → List Y) (n : ℕ) (xs : List X) → ((x : X) → length (f x) ≤ n) → length (flat_map f xs) ≤ n * length xs
pieces_few f n [] h = omega arith
pieces_few f n (x ∷ xs) h = omega (arith, length-append (f x) (flat_map f xs), h x, pieces_few f n xs h)

pub orders_few : (names : NameLists) (extents : List (Term × Bool)) (dates : List ℤ) (ss : List (ℕ × Statement)) →
    length (statement_orders names extents dates ss) ≤ 4 * length ss
orders_few names extents dates ss =
    pieces_few (orders_by names extents dates) 4 ss
    (λ s. orders_with_few s (extent_number extents s.1.domain) (range_number names extents dates s.1))
