-- The ends of statements stand in the triples.
use Rattle.std.proofs.Common.{ℕ, zero, suc, ◌≡◌, ◌<◌, ◌&&◌, ◌||◌, Bool, true, false, cond, Option, Some, None, List, [], ◌∷◌, get_or, length, map, filter, refl, sym, ap, subst, ◌∙◌, arith, inl, inr}
use Rattle.std.specs.List.{All, AllByRecursion, list_any, filter_map, cons_option}
use Rattle.std.specs.Option.{option_map}
use Rattle.std.proofs.lemmas.Bool.{false≢true, cases_Bool, cond-true, cond-false}
use Rattle.std.proofs.lemmas.List.Elements.{All-from_recursion}
use Rattle.rdf_terms.specs.declared.terms.Term.{Term}
use Rattle.rdf_terms.specs.declared.terms.Triple.{Triple}
use Rattle.rdf_terms.specs.Terms.{same_term}
use Rattle.rdf_terms.specs.Naming.{NameLists}
use Rattle.rdf_terms.proofs.TermLemmas.{same_term-refl}
use Rattle.crm_properties.specs.declared.Prop.{Prop}
use Rattle.crm_properties.specs.PropertyNumbers.{relation_from, relation_to, relation_type, is_typed_relation}
use Rattle.crm_type_check.specs.declared.Fault.{Fault}
use Rattle.crm_type_check.specs.declared.relation.Occurrence.{Occurrence}
use Rattle.crm_type_check.specs.declared.relation.Occurrence.TheVariants.{Absent, Once, Repeated}
use Rattle.crm_type_check.specs.declared.relation.Relation.{Relation}
use Rattle.crm_type_check.specs.Meaning.{property_of, makes_relation}
use Rattle.crm_type_check.specs.Faults.{Declared, declared_in, is_sound, own_faults, domain_end, range_end}
use Rattle.crm_type_check.specs.Relations.{has_property, with_property, occurrence, relation_by, relation_with, relation_of}
use Rattle.boundary_orders.specs.declared.statements.Statement.{Statement}
use Rattle.boundary_orders.specs.Statements.{is_faulty, makes_orders, by_property, by_relation, meaning_of, statement_of, statements_of}
use Rattle.boundary_orders.specs.Extents.{ends_in}

-- the term is the subject or the object of some triple
abbrev pub stands : List (ℕ × Triple) → Term → Bool
stands triples t = list_any (same_term t) (ends_in triples)

pub or_right : (a b : Bool) → b ≡ true → (a || b) ≡ true
or_right true b h = refl
or_right false b h = h

pub or_left : (a b : Bool) → a ≡ true → (a || b) ≡ true
or_left true b h = refl
or_left false b h = absurd (false≢true h)

stands_behind : (p : ℕ × Triple) (ps : List (ℕ × Triple)) (t : Term) → stands ps t ≡ true → stands (p ∷ ps) t ≡ true
stands_behind p ps t h = or_right (same_term t p.1.s) (same_term t p.1.o || stands ps t) (or_right (same_term t p.1.o) (stands ps t) h)

-- the two ends of a triple
pub subject_stands : (ps : List (ℕ × Triple)) (k : ℕ) (d : ℕ × Triple) → k < length ps → stands ps (get_or ps k d).1.s ≡ true
subject_stands [] k d l = absurd (omega arith)
subject_stands (p ∷ ps) zero d l = or_left (same_term p.1.s p.1.s) (same_term p.1.s p.1.o || stands ps p.1.s) (same_term-refl p.1.s)
subject_stands (p ∷ ps) (suc k) d l = stands_behind p ps (get_or ps k d).1.s (subject_stands ps k d (omega arith))

pub object_stands : (ps : List (ℕ × Triple)) (k : ℕ) (d : ℕ × Triple) → k < length ps → stands ps (get_or ps k d).1.o ≡ true
object_stands [] k d l = absurd (omega arith)
object_stands (p ∷ ps) zero d l =
    or_right (same_term p.1.o p.1.s) (same_term p.1.o p.1.o || stands ps p.1.o) (or_left (same_term p.1.o p.1.o) (stands ps p.1.o) (same_term-refl p.1.o))
object_stands (p ∷ ps) (suc k) d l = stands_behind p ps (get_or ps k d).1.o (object_stands ps k d (omega arith))

no_once : (t : Triple) → Absent ≡ Once t → ⊥
no_once t e = let never : ⊥ = cc in never

not_twice : (t : Triple) → Repeated ≡ Once t → ⊥
not_twice t e = let never : ⊥ = cc in never

same_once : (t u : Triple) → Once t ≡ Once u → t ≡ u
same_once t u e = cc

-- the only triple that is kept is one of the list
once_stands : (test : Triple → Bool) (ps : List (ℕ × Triple)) (t : Triple) → occurrence (filter test (map (λ (p : ℕ × Triple). p.1) ps)) ≡ Once t →
    stands ps t.o ≡ true
once_stands test [] t e = absurd (no_once t e)
once_stands test (p ∷ ps) t e = elim (cases_Bool (test p.1)) [
  | inl yea ↦
      first (filter test (map (λ (q : ℕ × Triple). q.1) ps))
      (ap occurrence (sym (cond-true (test p.1) (p.1 ∷ filter test (map (λ (q : ℕ × Triple). q.1) ps)) (filter test (map (λ (q : ℕ × Triple). q.1) ps)) yea)) ∙ e)
  | inr nay ↦
      stands_behind p ps t.o
      (once_stands test ps t
      (ap occurrence (sym (cond-false (test p.1) (p.1 ∷ filter test (map (λ (q : ℕ × Triple). q.1) ps)) (filter test (map (λ (q : ℕ × Triple). q.1) ps)) nay)) ∙ e))
]
  where
    first : (rest : List Triple) → occurrence (p.1 ∷ rest) ≡ Once t → stands (p ∷ ps) t.o ≡ true
    first [] h = subst (λ (u : Triple). stands (p ∷ ps) u.o ≡ true) (same_once p.1 t h) (object_stands (p ∷ ps) 0 p (omega arith))
    first (u ∷ us) h = absurd (not_twice t h)

-- both ends of a statement stand in the triples
pub record BothStand (triples : List (ℕ × Triple)) (s : Statement) : Type 0 where
  pub domain : stands triples s.domain ≡ true
  pub range : stands triples s.range ≡ true

pub no_statement : (s : Statement) → None ≡ Some s → ⊥
no_statement s e = let never : ⊥ = cc in never

pub same_statement : (s u : Statement) → Some s ≡ Some u → s ≡ u
same_statement s u e = cc

pub no_relation : (r : Relation) → None ≡ Some r → ⊥
no_relation r e = let never : ⊥ = cc in never

pub same_relation : (r u : Relation) → Some r ≡ Some u → r ≡ u
same_relation r u e = cc

abbrev pub AreIn : List (ℕ × Triple) → Term → Term → Type 0
AreIn triples a b = (stands triples a ≡ true) × (stands triples b ≡ true)

relation_in : (triples : List (ℕ × Triple)) (f t : Triple) (o : Option Prop) (r : Relation) → stands triples f.o ≡ true → stands triples t.o ≡ true →
    relation_by f t o ≡ Some r → AreIn triples r.from r.to
relation_in triples f t None r hf ht e = absurd (no_relation r e)
relation_in triples f t (Some p) r hf ht e = by (is_typed_relation p.code) e
  where
    by : (b : Bool) → cond b (Some (record { from = f.o; to = t.o; kind = p.code })) None ≡ Some r → AreIn triples r.from r.to
    by true h = subst (λ (u : Relation). AreIn triples u.from u.to) (same_relation (record { from = f.o; to = t.o; kind = p.code }) r h) (hf, ht)
    by false h = absurd (no_relation r h)

parts_in_triples : (names : NameLists) (triples : List (ℕ × Triple)) (declared : Declared) (f t k : Occurrence) (r : Relation) →
    ((u : Triple) → f ≡ Once u → stands triples u.o ≡ true) → ((u : Triple) → t ≡ Once u → stands triples u.o ≡ true) →
    relation_with names declared f t k ≡ Some r → AreIn triples r.from r.to
parts_in_triples names triples declared (Once f) (Once t) (Once k) r hf ht e =
    by (is_sound (own_faults names declared f) && is_sound (own_faults names declared t)) e
  where
    by : (b : Bool) → cond b (relation_by f t (property_of names k.o)) None ≡ Some r → AreIn triples r.from r.to
    by true h = relation_in triples f t (property_of names k.o) r (hf f refl) (ht t refl) h
    by false h = absurd (no_relation r h)
parts_in_triples names triples declared Absent t k r hf ht e = absurd (no_relation r e)
parts_in_triples names triples declared Repeated t k r hf ht e = absurd (no_relation r e)
parts_in_triples names triples declared (Once f) Absent k r hf ht e = absurd (no_relation r e)
parts_in_triples names triples declared (Once f) Repeated k r hf ht e = absurd (no_relation r e)
parts_in_triples names triples declared (Once f) (Once t) Absent r hf ht e = absurd (no_relation r e)
parts_in_triples names triples declared (Once f) (Once t) Repeated r hf ht e = absurd (no_relation r e)

relation_stands : (names : NameLists) (triples : List (ℕ × Triple)) (node : Term) (r : Relation) → relation_of names triples node ≡ Some r → AreIn triples r.from r.to
relation_stands names triples node r e =
    parts_in_triples names triples (declared_in names triples) (occurrence (with_property names triples node relation_from))
    (occurrence (with_property names triples node relation_to)) (occurrence (with_property names triples node relation_type)) r
    (once_stands (has_property names node relation_from) triples) (once_stands (has_property names node relation_to) triples) e

by_relation_stands : (triples : List (ℕ × Triple)) (o : Option Relation) (s : Statement) → ((r : Relation) → o ≡ Some r → AreIn triples r.from r.to) →
    by_relation o ≡ Some s → BothStand triples s
by_relation_stands triples None s known e = absurd (no_statement s e)
by_relation_stands triples (Some r) s known e =
    let ends : AreIn triples r.from r.to = known r refl in
    subst (λ (u : Statement). BothStand triples u) (same_statement (record { code = r.kind; domain = r.from; range = r.to }) s e)
    (record { domain = ends.0; range = ends.1 })

by_property_stands : (triples : List (ℕ × Triple)) (t : Triple) (o : Option Prop) (s : Statement) → stands triples t.s ≡ true → stands triples t.o ≡ true →
    by_property t o ≡ Some s → BothStand triples s
by_property_stands triples t None s hs ho e = absurd (no_statement s e)
by_property_stands triples t (Some p) s hs ho e = by (makes_orders p.code) e
  where
    turned : (inverse : Bool) → BothStand triples (record { code = p.code; domain = cond inverse t.o t.s; range = cond inverse t.s t.o })
    turned true = record { domain = ho; range = hs }
    turned false = record { domain = hs; range = ho }

    by : (b : Bool) → cond b (Some (record { code = p.code; domain = domain_end p t; range = range_end p t })) None ≡ Some s → BothStand triples s
    by true h =
        subst (λ (u : Statement). BothStand triples u) (same_statement (record { code = p.code; domain = domain_end p t; range = range_end p t }) s h)
        (turned p.inverse)
    by false h = absurd (no_statement s h)

meaning_stands : (names : NameLists) (triples : List (ℕ × Triple)) (t : Triple) (s : Statement) → stands triples t.s ≡ true → stands triples t.o ≡ true →
    meaning_of names triples t ≡ Some s → BothStand triples s
meaning_stands names triples t s hs ho e = by (makes_relation names t) e
  where
    by : (b : Bool) → cond b (by_relation (relation_of names triples t.s)) (by_property t (property_of names t.p)) ≡ Some s → BothStand triples s
    by true h = by_relation_stands triples (relation_of names triples t.s) s (relation_stands names triples t.s) h
    by false h = by_property_stands triples t (property_of names t.p) s hs ho h

pub no_pair : (q : ℕ × Statement) → None ≡ Some q → ⊥
no_pair q e = let never : ⊥ = cc in never

same_pair : (q u : ℕ × Statement) → Some q ≡ Some u → q ≡ u
same_pair q u e = cc

-- what a statement of a triple is
pub record Comes (names : NameLists) (triples : List (ℕ × Triple)) (p : ℕ × Triple) (q : ℕ × Statement) : Type 0 where
  pub number : q.0 ≡ p.0
  pub meaning : meaning_of names triples p.1 ≡ Some q.1

pub statement_comes : (names : NameLists) (triples : List (ℕ × Triple)) (faults : List Fault) (p : ℕ × Triple) (q : ℕ × Statement) →
    statement_of names triples faults p ≡ Some q → Comes names triples p q
statement_comes names triples faults p q e = by (is_faulty faults p.0) (meaning_of names triples p.1) refl e
  where
    by : (b : Bool) (o : Option Statement) → meaning_of names triples p.1 ≡ o → cond b None (option_map (λ s. (p.0, s)) o) ≡ Some q → Comes names triples p q
    by true o m h = absurd (no_pair q h)
    by false None m h = absurd (no_pair q h)
    by false (Some s) m h =
        subst (λ (u : ℕ × Statement). Comes names triples p u) (same_pair (p.0, s) q h) (record { number = refl; meaning = m })

-- what holds of all that is given holds of each
pub all_given : {X Y : Type 0} (h : X → Option Y) (P : Y → Type 0) (xs : List X) →
    ((k : ℕ) (d : X) → k < length xs → (y : Y) → h (get_or xs k d) ≡ Some y → P y) → AllByRecursion P (filter_map h xs)
all_given h P [] step = tt
all_given {X} {Y} h P (x ∷ xs) step = by (h x) refl (all_given h P xs (λ k d l y e. step (suc k) d (omega (arith, l)) y e))
  where
    by : (o : Option Y) → h x ≡ o → AllByRecursion P (filter_map h xs) → AllByRecursion P (cons_option o (filter_map h xs))
    by None e rest = rest
    by (Some y) e rest = (step 0 x (omega arith) y e, rest)

pub statements_stand : (names : NameLists) (triples : List (ℕ × Triple)) (faults : List Fault) →
    All (λ q. BothStand triples q.1) (statements_of names triples faults)
statements_stand names triples faults =
    All-from_recursion (λ q. BothStand triples q.1) (statements_of names triples faults)
    (all_given (statement_of names triples faults) (λ q. BothStand triples q.1) triples
    (λ k d l q e.
    meaning_stands names triples (get_or triples k d).1 q.1 (subject_stands triples k d l) (object_stands triples k d l)
    (statement_comes names triples faults (get_or triples k d) q e).meaning))
