-- The points of all orders are in range, and each order of a statement has the number of a triple.
use Rattle.std.proofs.Common.{ℕ, zero, suc, ℤ, ◌≡◌, ◌<◌, ◌+◌, ◌-◌, ◌++◌, Bool, true, false, cond, Option, Some, None, List, [], ◌∷◌, get_or, length, map, nat_eq, refl, sym, ap, subst, arith}
use Rattle.std.specs.Prelude.{is_some}
use Rattle.std.specs.List.{All, AllByRecursion, list_any, list_all, flat_map}
use Rattle.std.specs.Option.{option_map}
use Rattle.std.proofs.lemmas.Bool.{false≢true, and_parts, eq-eqb, cond-true}
use Rattle.std.proofs.lemmas.List.Elements.{All-from_recursion, All-nil, All-cons, All-append, All-map}
use Rattle.rdf_terms.specs.declared.terms.Term.{Term}
use Rattle.rdf_terms.specs.declared.terms.Triple.{Triple}
use Rattle.rdf_terms.specs.Terms.{same_term}
use Rattle.rdf_terms.specs.Naming.{NameLists}
use Rattle.triple_pool.specs.Pool.{triple_of}
use Rattle.crm_type_check.specs.declared.Fault.{Fault}
use Rattle.order_laws.specs.declared.Point.TheVariants.{Start, End, Date}
use Rattle.order_laws.specs.declared.By.TheVariants.{Extent, Dates}
use Rattle.order_laws.specs.declared.Order.{Order}
use Rattle.order_laws.specs.Chains.{no_order}
use Rattle.order_laws.specs.Tables.{IsPoint}
use Rattle.order_core.specs.Sets.{AreInRange, completed, extent_orders, date_orders}
use Rattle.boundary_orders.specs.declared.statements.Statement.{Statement}
use Rattle.boundary_orders.specs.Statements.{is_dated, statement_of, statements_of}
use Rattle.boundary_orders.specs.Orders.{Spot, DomainStart, DomainEnd, RangeStart, RangeEnd, TheDate, Rule, rules_of, point_at, order_by, AreNumbered, same_instant, is_held, instant_of, dates_of, date_number, extent_number, range_number, orders_with, orders_by, statement_orders}
use Rattle.boundary_orders.specs.Dossiers.{IsSourced}
use Rattle.boundary_orders.proofs.Ruling.{spot_fits, rule_fits, rules_fit}
use Rattle.boundary_orders.proofs.Within.{place_within}
use Rattle.boundary_orders.proofs.Holding.{dates_hold}
use Rattle.boundary_orders.proofs.Covering.{statement_comes, all_given}

-- a number stands for the date where the property is dated, and else for an extent
pub record IsRange (extents dates : ℕ) (dated : Bool) (k : ℕ) : Type 0 where
  pub date : dated ≡ true → k < dates
  pub extent : dated ≡ false → k < extents

no_fit : {P : Type 0} → false ≡ true → P
no_fit e = absurd (false≢true e)

point_in : (extents dates a b : ℕ) (dated : Bool) (spot : Spot) → a < extents → IsRange extents dates dated b → spot_fits dated spot ≡ true →
    IsPoint extents dates (point_at a b spot)
point_in extents dates a b dated DomainStart l r h = l
point_in extents dates a b dated DomainEnd l r h = l
point_in extents dates a b true RangeStart l r h = no_fit h
point_in extents dates a b false RangeStart l r h = r.extent refl
point_in extents dates a b true RangeEnd l r h = no_fit h
point_in extents dates a b false RangeEnd l r h = r.extent refl
point_in extents dates a b true TheDate l r h = r.date refl
point_in extents dates a b false TheDate l r h = no_fit h

pub record ArePoints (extents dates : ℕ) (o : Order) : Type 0 where
  pub low : IsPoint extents dates o.low
  pub high : IsPoint extents dates o.high

rules_in : (extents dates triple a b : ℕ) (dated : Bool) (rs : List Rule) → a < extents → IsRange extents dates dated b → list_all (rule_fits dated) rs ≡ true →
    AllByRecursion (λ (o : Order). ArePoints extents dates o) (map (order_by triple a b) rs)
rules_in extents dates triple a b dated [] l r h = tt
rules_in extents dates triple a b dated (x ∷ rs) l r h =
    let parts : (rule_fits dated x ≡ true) × (list_all (rule_fits dated) rs ≡ true) = and_parts (rule_fits dated x) (list_all (rule_fits dated) rs) h in
    let spots : (spot_fits dated x.low ≡ true) × (spot_fits dated x.high ≡ true) = and_parts (spot_fits dated x.low) (spot_fits dated x.high) parts.0 in (
      record { low = point_in extents dates a b dated x.low l r spots.0; high = point_in extents dates a b dated x.high l r spots.1 },
      rules_in extents dates triple a b dated rs l r parts.1,
    )

-- the number of the range is in range
range_in : (names : NameLists) (extents : List (Term × Bool)) (dates : List ℤ) (s : Statement) → AreNumbered extents s → is_held dates (instant_of names s) ≡ true →
    (k : ℕ) → range_number names extents dates s ≡ Some k → IsRange (length extents) (length dates) (is_dated s.code) k
range_in names extents dates s numbered held k e = by (is_dated s.code) refl (instant_of names s) held e
  where
    found : (t : ℤ) → date_number dates t ≡ k → list_any (same_instant t) dates ≡ true → k < length dates
    found t same h = subst (λ (n : ℕ). n < length dates) same (place_within (same_instant t) dates h)

    by : (b : Bool) → is_dated s.code ≡ b → (o : Option ℤ) → is_held dates o ≡ true →
        cond b (option_map (date_number dates) o) (Some (extent_number extents s.range)) ≡ Some k → IsRange (length extents) (length dates) b k
    by true is None h g = absurd (let never : ⊥ = cc in never)
    by true is (Some t) h g = record {
      date = λ yes. found t (let same : date_number dates t ≡ k = cc in same) h;
      extent = λ other. absurd (false≢true (sym other));
    }
    by false is o h g = record {
      date = λ other. absurd (false≢true other);
      extent = λ plain. subst (λ (n : ℕ). n < length extents) (let same : extent_number extents s.range ≡ k = cc in same)
          (place_within (λ (x : Term × Bool). same_term s.range x.0) extents (numbered.range is));
    }

orders_in_range : (names : NameLists) (extents : List (Term × Bool)) (dates : List ℤ) (s : ℕ × Statement) → AreNumbered extents s.1 →
    is_held dates (instant_of names s.1) ≡ true → All (λ (o : Order). ArePoints (length extents) (length dates) o) (orders_by names extents dates s)
orders_in_range names extents dates s numbered held = by (range_number names extents dates s.1) refl
  where
    by : (o : Option ℕ) → range_number names extents dates s.1 ≡ o →
        All (λ (x : Order). ArePoints (length extents) (length dates) x) (orders_with s (extent_number extents s.1.domain) o)
    by None e = All-nil (λ (x : Order). ArePoints (length extents) (length dates) x)
    by (Some k) e =
        All-from_recursion (λ (x : Order). ArePoints (length extents) (length dates) x)
        (map (order_by s.0 (extent_number extents s.1.domain) k) (rules_of s.1.code))
        (rules_in (length extents) (length dates) s.0 (extent_number extents s.1.domain) k (is_dated s.1.code) (rules_of s.1.code)
        (place_within (λ (x : Term × Bool). same_term s.1.domain x.0) extents numbered.domain)
        (range_in names extents dates s.1 numbered held k e) (rules_fit s.1.code))

pub all_pieces : {X Y : Type 0} (P : Y → Type 0) (f : X → List Y) (xs : List X) → All (λ (x : X). All P (f x)) xs → All P (flat_map f xs)
all_pieces P f [] h = All-nil P
all_pieces P f (x ∷ xs) h = All-append P (f x) (flat_map f xs) (h 0 x (omega arith)) (all_pieces P f xs (λ k d l. h (suc k) d (omega (arith, l))))

pub points_in_range : (names : NameLists) (extents : List (Term × Bool)) (ss : List (ℕ × Statement)) → All (λ (s : ℕ × Statement). AreNumbered extents s.1) ss →
    AreInRange (length extents) (length (dates_of names ss)) (statement_orders names extents (dates_of names ss) ss)
points_in_range names extents ss numbered =
    let points : All (λ (o : Order). ArePoints (length extents) (length (dates_of names ss)) o) (statement_orders names extents (dates_of names ss) ss) =
    all_pieces (λ (o : Order). ArePoints (length extents) (length (dates_of names ss)) o) (orders_by names extents (dates_of names ss)) ss
    (λ k d l. orders_in_range names extents (dates_of names ss) (get_or ss k d) (numbered k d l) (dates_hold names ss k d l)) in
    record { low = λ n l. (points n no_order l).low; high = λ n l. (points n no_order l).high }

number_found : (ps : List (ℕ × Triple)) (k : ℕ) (d : ℕ × Triple) → k < length ps → is_some (triple_of (get_or ps k d).0 ps) ≡ true
number_found [] k d l = absurd (omega arith)
number_found (p ∷ ps) zero d l = ap is_some (cond-true (nat_eq p.0 p.0) (Some p.1) (triple_of p.0 ps) (eq-eqb p.0 p.0 refl))
number_found (p ∷ ps) (suc k) d l = by (nat_eq p.0 (get_or ps k d).0) (number_found ps k d (omega (arith, l)))
  where
    by : (b : Bool) → is_some (triple_of (get_or ps k d).0 ps) ≡ true → is_some (cond b (Some p.1) (triple_of (get_or ps k d).0 ps)) ≡ true
    by true h = refl
    by false h = h

statements_numbered : (names : NameLists) (triples : List (ℕ × Triple)) (faults : List Fault) →
    All (λ (q : ℕ × Statement). is_some (triple_of q.0 triples) ≡ true) (statements_of names triples faults)
statements_numbered names triples faults =
    All-from_recursion (λ (q : ℕ × Statement). is_some (triple_of q.0 triples) ≡ true) (statements_of names triples faults)
    (all_given (statement_of names triples faults) (λ (q : ℕ × Statement). is_some (triple_of q.0 triples) ≡ true) triples
    (λ k d l q e.
    subst (λ (n : ℕ). is_some (triple_of n triples) ≡ true) (sym (statement_comes names triples faults (get_or triples k d) q e).number)
    (number_found triples k d l)))

orders_sourced : (names : NameLists) (triples : List (ℕ × Triple)) (extents : List (Term × Bool)) (dates : List ℤ) (s : ℕ × Statement) →
    is_some (triple_of s.0 triples) ≡ true → All (λ (o : Order). IsSourced triples o.by) (orders_by names extents dates s)
orders_sourced names triples extents dates s h = by (range_number names extents dates s.1)
  where
    by : (o : Option ℕ) → All (λ (x : Order). IsSourced triples x.by) (orders_with s (extent_number extents s.1.domain) o)
    by None = All-nil (λ (x : Order). IsSourced triples x.by)
    by (Some k) =
        All-map (λ (x : Order). IsSourced triples x.by) (order_by s.0 (extent_number extents s.1.domain) k) (rules_of s.1.code) (λ i d l. h)

extents_sourced : (triples : List (ℕ × Triple)) (n : ℕ) → All (λ (o : Order). IsSourced triples o.by) (extent_orders n)
extents_sourced triples zero = All-nil (λ (o : Order). IsSourced triples o.by)
extents_sourced triples (suc k) =
    All-append (λ (o : Order). IsSourced triples o.by) (extent_orders k) (record { low = Start k; high = End k; strict = true; by = Extent k } ∷ [])
    (extents_sourced triples k) (All-cons (λ (o : Order). IsSourced triples o.by) _ [] tt (All-nil (λ (o : Order). IsSourced triples o.by)))

dates_sourced : (triples : List (ℕ × Triple)) (n : ℕ) → All (λ (o : Order). IsSourced triples o.by) (date_orders n)
dates_sourced triples zero = All-nil (λ (o : Order). IsSourced triples o.by)
dates_sourced triples (suc k) =
    All-append (λ (o : Order). IsSourced triples o.by) (date_orders k) (record { low = Date k; high = Date (k + 1); strict = true; by = Dates } ∷ [])
    (dates_sourced triples k) (All-cons (λ (o : Order). IsSourced triples o.by) _ [] tt (All-nil (λ (o : Order). IsSourced triples o.by)))

pub all_sourced : (names : NameLists) (triples : List (ℕ × Triple)) (faults : List Fault) (extents : List (Term × Bool)) (dates : List ℤ) (n m : ℕ) →
    All (λ (o : Order). IsSourced triples o.by) (completed n m (statement_orders names extents dates (statements_of names triples faults)))
all_sourced names triples faults extents dates n m =
    All-append (λ (o : Order). IsSourced triples o.by) (statement_orders names extents dates (statements_of names triples faults)) (extent_orders n ++ date_orders (m - 1))
    (all_pieces (λ (o : Order). IsSourced triples o.by) (orders_by names extents dates) (statements_of names triples faults)
    (λ k d l. orders_sourced names triples extents dates (get_or (statements_of names triples faults) k d) (statements_numbered names triples faults k d l)))
    (All-append (λ (o : Order). IsSourced triples o.by) (extent_orders n) (date_orders (m - 1)) (extents_sourced triples n) (dates_sourced triples (m - 1)))
