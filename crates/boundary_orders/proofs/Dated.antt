-- Each dated statement has its date, where the triples fit the names and these are their faults.
use Rattle.std.proofs.Common.{ℕ, zero, suc, ℤ, ◌≡◌, ◌<◌, ◌+◌, ◌&&◌, ◌||◌, ◌++◌, Bool, true, false, cond, not, Option, Some, None, Result, Ok, Err, List, [], ◌∷◌, get_or, length, map, nat_eq, position, refl, sym, ap, subst, ◌∙◌, arith}
use Rattle.std.specs.Prelude.{is_some, option_and_then}
use Rattle.std.specs.List.{All, list_any}
use Rattle.std.specs.Option.{option_map}
use Rattle.std.proofs.lemmas.Bool.Decides.{nat_tests}
use Rattle.std.proofs.lemmas.Bool.{false≢true, and_parts, both_ways, eq-eqb, ltb-true, not-true}
use Rattle.std.proofs.lemmas.List.Elements.{All-from_recursion}
use Rattle.std.proofs.lemmas.List.Quantifiers.{position-Some}
use Rattle.std.proofs.lemmas.Option.{slice_get-get_or}
use Rattle.rdf_terms.specs.declared.terms.Term.{Term}
use Rattle.rdf_terms.specs.declared.terms.Term.TheVariants.{Iri, Blank, Lit}
use Rattle.rdf_terms.specs.declared.terms.Triple.{Triple}
use Rattle.rdf_terms.specs.declared.terms.Literal.{Literal}
use Rattle.rdf_terms.specs.Naming.{NameLists}
use Rattle.rdf_terms.specs.Fitting.{is_iri, is_literal, literal_of, is_among, iri_of, fits, AllFit}
use Rattle.crm_properties.specs.declared.Prop.{Prop}
use Rattle.crm_properties.specs.declared.RangeKind.{RangeKind}
use Rattle.crm_properties.specs.declared.RangeKind.TheVariants.{Class, Text, Date}
use Rattle.crm_properties.specs.Table.{Row, rows}
use Rattle.crm_properties.specs.Names.{no_row, row_at, name_of, same_space, is_row, is_text, is_inverse_row, prop_in, prop_of_text}
use Rattle.crm_properties.specs.PropertyNumbers.{is_typed_relation}
use Rattle.time_primitive.specs.declared.DateFault.{DateFault}
use Rattle.time_primitive.specs.Dates.{date_of}
use Rattle.crm_type_check.specs.declared.Fault.{Fault}
use Rattle.crm_type_check.specs.declared.FaultKind.{FaultKind}
use Rattle.crm_type_check.specs.declared.FaultKind.TheVariants.{C1, C2, C3, D1, R1, R2, R3, A1}
use Rattle.crm_type_check.specs.declared.own.OwnFaults.{OwnFaults}
use Rattle.crm_type_check.specs.declared.relation.Occurrence.{Occurrence}
use Rattle.crm_type_check.specs.declared.relation.Occurrence.TheVariants.{Absent, Once, Repeated}
use Rattle.crm_type_check.specs.declared.relation.Relation.{Relation}
use Rattle.crm_type_check.specs.Meaning.{property_of, makes_relation}
use Rattle.crm_type_check.specs.Faults.{Declared, declared_in, is_sound, own_faults, is_class, is_date, side_of, fault_of, fault_in_literal, date_fault, has_r3, domain_end, range_end}
use Rattle.crm_type_check.specs.Relations.{relation_by, relation_with, relation_of, parts_in, when, when_some, kinds, kinds_of, has_a1, fault_at, faults_at, faults_of}
use Rattle.boundary_orders.specs.declared.statements.Statement.{Statement}
use Rattle.boundary_orders.specs.Statements.{is_faulty, is_dated, makes_orders, by_property, by_relation, meaning_of, statement_of, statements_of}
use Rattle.boundary_orders.specs.Orders.{ok_of, instant_in, instant_of}
use Rattle.boundary_orders.proofs.Covering.{no_statement, same_statement, no_relation, same_relation, no_pair, all_given, or_left, statement_comes}
use Rattle.boundary_orders.proofs.Within.{any_pieces}
use Rattle.boundary_orders.proofs.Fitting.{ends_of_five}

-- a property of dates has a date as its range and no inverse
abbrev row_dated : ℕ → Row → Bool
row_dated n r = not (is_dated n) || (is_date r.range && not (is_some r.inverse))

abbrev rows_dated : ℕ → List Row → Bool
rows_dated n [] = true
rows_dated n (r ∷ rs) = row_dated n r && rows_dated (suc n) rs

row_dated_at : (n : ℕ) (rs : List Row) → rows_dated n rs ≡ true → (k : ℕ) → k < length rs → row_dated (n + k) (get_or rs k no_row) ≡ true
row_dated_at n [] h k l = absurd (omega arith)
row_dated_at n (r ∷ rs) h zero l =
    subst (λ (m : ℕ). row_dated m r ≡ true) (let plus : n ≡ n + 0 = omega arith in plus) (and_parts (row_dated n r) (rows_dated (suc n) rs) h).0
row_dated_at n (r ∷ rs) h (suc k) l =
    subst (λ (m : ℕ). row_dated m (get_or rs k no_row) ≡ true) (let plus : suc n + k ≡ n + suc k = omega arith in plus)
    (row_dated_at (suc n) rs (and_parts (row_dated n r) (rows_dated (suc n) rs) h).1 k (omega (arith, l)))

table_dated : rows_dated 0 rows ≡ true
unfolding rows
table_dated = refl

pub record IsDate (p : Prop) : Type 0 where
  pub range : is_date (row_at p.code).range ≡ true
  pub plain : p.inverse ≡ false

-- the row of a number below the count
row_says : (n : ℕ) → n < length rows → is_dated n ≡ true → (is_date (row_at n).range ≡ true) × (not (is_some (row_at n).inverse) ≡ true)
row_says n l d =
    let at : row_dated n (row_at n) ≡ true =
    subst (λ (m : ℕ). row_dated m (row_at n) ≡ true) (let plus : 0 + n ≡ n = omega arith in plus) (row_dated_at 0 rows table_dated n l) in
    let rest : (is_date (row_at n).range && not (is_some (row_at n).inverse)) ≡ true =
    subst (λ (b : Bool). (not b || (is_date (row_at n).range && not (is_some (row_at n).inverse))) ≡ true) d at in
    and_parts (is_date (row_at n).range) (not (is_some (row_at n).inverse)) rest

no_prop : (p : Prop) → None ≡ Some p → ⊥
no_prop p e = let never : ⊥ = cc in never

same_prop : (p q : Prop) → Some p ≡ Some q → p ≡ q
same_prop p q e = cc

text_there : (o : Option (List ℕ)) (text : List ℕ) → is_text o text ≡ true → is_some o ≡ true
text_there None text h = absurd (false≢true h)
text_there (Some t) text h = refl

prop_dated : (iri : List ℕ) (p : Prop) → prop_of_text iri ≡ Some p → is_dated p.code ≡ true → IsDate p
prop_dated iri p e d = by (position (is_row (name_of iri)) rows) (position (is_inverse_row (name_of iri)) rows) refl refl e
  where
    named : (n : ℕ) → n < length rows → (record { code = n; inverse = false }) ≡ p → IsDate p
    named n l same =
        subst (λ (q : Prop). IsDate q) same
        (record { range = (row_says n l (subst (λ (q : Prop). is_dated q.code ≡ true) (sym same) d)).0; plain = refl })

    inverted : (n : ℕ) → n < length rows → is_inverse_row (name_of iri) (row_at n) ≡ true → (record { code = n; inverse = true }) ≡ p → IsDate p
    inverted n l passes same =
        let says : (is_date (row_at n).range ≡ true) × (not (is_some (row_at n).inverse) ≡ true)
        = row_says n l (subst (λ (q : Prop). is_dated q.code ≡ true) (sym same) d) in
        let known : is_some (row_at n).inverse ≡ true
        = text_there (row_at n).inverse (name_of iri).text
        (and_parts (same_space (row_at n).space (name_of iri).space) (is_text (row_at n).inverse (name_of iri).text) passes).1 in
        absurd (both_ways (is_some (row_at n).inverse) (not-true (is_some (row_at n).inverse) says.1) known)

    by : (a b : Option ℕ) → position (is_row (name_of iri)) rows ≡ a → position (is_inverse_row (name_of iri)) rows ≡ b → prop_in a b ≡ Some p → IsDate p
    by (Some n) b ea eb h = named n (position-Some (is_row (name_of iri)) rows n no_row ea).0 (same_prop (record { code = n; inverse = false }) p h)
    by None (Some n) ea eb h =
        let found : (n < length rows) × (is_inverse_row (name_of iri) (row_at n) ≡ true) × ((k : ℕ) → k < n → is_inverse_row (name_of iri) (get_or rows k no_row) ≡ false)
        = position-Some (is_inverse_row (name_of iri)) rows n no_row eb in
        inverted n found.0 found.1 (same_prop (record { code = n; inverse = true }) p h)
    by None None ea eb h = absurd (no_prop p h)

property_dated : (names : NameLists) (t : Term) (p : Prop) → property_of names t ≡ Some p → is_dated p.code ≡ true → IsDate p
property_dated names t p e d = by (iri_of names t) e
  where
    by : (o : Option (List ℕ)) → option_and_then prop_of_text o ≡ Some p → IsDate p
    by None h = absurd (no_prop p h)
    by (Some iri) h = prop_dated iri p h d

-- a triple without a fault has neither of these
nil_left : {X : Type 0} (xs ys : List X) → xs ++ ys ≡ [] → xs ≡ []
nil_left [] ys e = refl
nil_left (x ∷ xs) ys e = absurd (let never : ⊥ = cc in never)

nil_right : {X : Type 0} (xs ys : List X) → xs ++ ys ≡ [] → ys ≡ []
nil_right [] ys e = e
nil_right (x ∷ xs) ys e = absurd (let never : ⊥ = cc in never)

when_none : (b : Bool) (k : FaultKind) → when b k ≡ [] → b ≡ false
when_none true k e = absurd (let never : ⊥ = cc in never)
when_none false k e = refl

when_no_date : (o : Option DateFault) → when_some o ≡ [] → o ≡ None
when_no_date None e = refl
when_no_date (Some d) e = absurd (let never : ⊥ = cc in never)

pub record IsClean (own : OwnFaults) : Type 0 where
  pub r3 : own.r3 ≡ false
  pub r4 : own.r4 ≡ None

abbrev firsts : OwnFaults → List FaultKind
firsts own = when own.c1 C1 ++ when own.c2 C2 ++ when own.c3 C3

abbrev ends : OwnFaults → List FaultKind
ends own = when own.d1 D1 ++ when own.r1 R1 ++ when own.r2 R2 ++ when own.r3 R3

no_kinds : (own : OwnFaults) (a1 : Bool) → kinds own a1 ≡ [] → IsClean own
no_kinds own a1 e =
    let front = nil_left (firsts own ++ ends own ++ when_some own.r4) (when a1 A1) e in
    let both = nil_left (firsts own ++ ends own) (when_some own.r4) front in
    record {
      r3 = when_none own.r3 R3 (nil_right (when own.d1 D1 ++ when own.r1 R1 ++ when own.r2 R2) (when own.r3 R3) (nil_right (firsts own) (ends own) both));
      r4 = when_no_date own.r4 (nil_right (firsts own ++ ends own) (when_some own.r4) front);
    }

-- no fault names a triple that has none
kinds_none : (names : NameLists) (triples : List (ℕ × Triple)) (k : ℕ) (d : ℕ × Triple) → k < length triples →
    is_faulty (faults_of names triples) (get_or triples k d).0 ≡ false → kinds_of names triples (get_or triples k d).1 ≡ []
kinds_none names triples k d l sound = by (kinds_of names triples (get_or triples k d).1) refl
  where
    by : (ks : List FaultKind) → kinds_of names triples (get_or triples k d).1 ≡ ks → ks ≡ []
    by [] e = refl
    by (x ∷ xs) e = absurd (both_ways (is_faulty (faults_of names triples) (get_or triples k d).0) sound
        (any_pieces (λ (f : Fault). nat_eq f.triple (get_or triples k d).0) (faults_at names triples) triples k d l
        (ap (λ (ks : List FaultKind). list_any (λ (f : Fault). nat_eq f.triple (get_or triples k d).0) (map (fault_at (get_or triples k d).0 (get_or triples k d).1) ks)) e
        ∙ or_left (nat_eq (get_or triples k d).0 (get_or triples k d).0)
        (list_any (λ (f : Fault). nat_eq f.triple (get_or triples k d).0) (map (fault_at (get_or triples k d).0 (get_or triples k d).1) xs))
        (eq-eqb (get_or triples k d).0 (get_or triples k d).0 refl))))

stated_sound : (names : NameLists) (triples : List (ℕ × Triple)) (faults : List Fault) (p : ℕ × Triple) (q : ℕ × Statement) →
    statement_of names triples faults p ≡ Some q → is_faulty faults p.0 ≡ false
stated_sound names triples faults p q e = by (is_faulty faults p.0) e
  where
    by : (b : Bool) → cond b None (option_map (λ (s : Statement). (p.0, s)) (meaning_of names triples p.1)) ≡ Some q → b ≡ false
    by true h = absurd (no_pair q h)
    by false h = refl

no_literal : Literal
no_literal = record { lexical = []; datatype = []; tag = [] }

pub record HasLiteral (names : NameLists) (t : Term) : Type 0 where
  pub value : Literal
  pub found : literal_of names t ≡ Some value

literal_there : (names : NameLists) (t : Term) → is_literal t ≡ true → is_among names t ≡ true → HasLiteral names t
literal_there names (Iri n) h a = absurd (false≢true h)
literal_there names (Blank n) h a = absurd (false≢true h)
literal_there names (Lit n) h a = record {
  value = get_or names.literals n no_literal;
  found = slice_get-get_or names.literals n no_literal (ltb-true n (length names.literals) a);
}

date_no_class : (r : RangeKind) → is_date r ≡ true → not (is_class r) ≡ true
date_no_class (Class c) h = absurd (false≢true h)
date_no_class Text h = absurd (false≢true h)
date_no_class Date h = refl

-- what stands at the object of a sound triple of a date
object_literal : (t : Triple) (p : Prop) → is_date (row_at p.code).range ≡ true → has_r3 t (Some p) ≡ false → is_literal t.o ≡ true
object_literal t p date none = by (is_literal t.o) (subst (λ (b : Bool). (not (is_literal t.o) && b) ≡ false) (date_no_class (row_at p.code).range date) none)
  where
    by : (b : Bool) → (not b && true) ≡ false → b ≡ true
    by true h = refl
    by false h = absurd (false≢true (sym h))

read_there : (r : Result ℤ DateFault) → fault_of r ≡ None → is_some (ok_of r) ≡ true
read_there (Ok t) h = refl
read_there (Err e) h = absurd (let never : ⊥ = cc in never)

known_date : (names : NameLists) (t : Triple) (p : Prop) → IsDate p → is_dated p.code ≡ true → fits names t ≡ true → has_r3 t (Some p) ≡ false →
    date_fault names t (Some p) ≡ None → is_some (instant_of names (record { code = p.code; domain = domain_end p t; range = range_end p t })) ≡ true
known_date names t p date dated fit r3 r4 =
    let literal : HasLiteral names t.o =
    literal_there names t.o (object_literal t p date.range r3)
    (ends_of_five (not (is_literal t.s)) (is_iri t.p) (is_among names t.s) (is_among names t.p) (is_among names t.o) fit).1 in
    let read : fault_of (date_of literal.value.lexical literal.value.datatype (side_of p.code)) ≡ None =
    subst (λ (o : Option Literal). fault_in_literal p o ≡ None) literal.found
    (subst (λ (b : Bool). cond b (fault_in_literal p (literal_of names t.o)) None ≡ None) date.range r4) in
    ap (λ (b : Bool). is_some (cond b (instant_in p.code (literal_of names (range_end p t))) None)) dated
    ∙ ap (λ (b : Bool). is_some (instant_in p.code (literal_of names (cond b t.s t.o)))) date.plain
    ∙ ap (λ (o : Option Literal). is_some (instant_in p.code o)) literal.found
    ∙ read_there (date_of literal.value.lexical literal.value.datatype (side_of p.code)) read

-- a relation is of one of the three kinds, and none of these is a date
typed_by : (f t : Triple) (o : Option Prop) (r : Relation) → relation_by f t o ≡ Some r → is_typed_relation r.kind ≡ true
typed_by f t None r e = absurd (no_relation r e)
typed_by f t (Some p) r e = by (is_typed_relation p.code) refl e
  where
    by : (b : Bool) → is_typed_relation p.code ≡ b → cond b (Some (record { from = f.o; to = t.o; kind = p.code })) None ≡ Some r →
        is_typed_relation r.kind ≡ true
    by true typed h = subst (λ (u : Relation). is_typed_relation u.kind ≡ true) (same_relation (record { from = f.o; to = t.o; kind = p.code }) r h) typed
    by false typed h = absurd (no_relation r h)

typed_with : (names : NameLists) (declared : Declared) (f t k : Occurrence) (r : Relation) → relation_with names declared f t k ≡ Some r →
    is_typed_relation r.kind ≡ true
typed_with names declared (Once f) (Once t) (Once k) r e =
    by (is_sound (own_faults names declared f) && is_sound (own_faults names declared t)) e
  where
    by : (b : Bool) → cond b (relation_by f t (property_of names k.o)) None ≡ Some r → is_typed_relation r.kind ≡ true
    by true h = typed_by f t (property_of names k.o) r h
    by false h = absurd (no_relation r h)
typed_with names declared Absent t k r e = absurd (no_relation r e)
typed_with names declared Repeated t k r e = absurd (no_relation r e)
typed_with names declared (Once f) Absent k r e = absurd (no_relation r e)
typed_with names declared (Once f) Repeated k r e = absurd (no_relation r e)
typed_with names declared (Once f) (Once t) Absent r e = absurd (no_relation r e)
typed_with names declared (Once f) (Once t) Repeated r e = absurd (no_relation r e)

typed_undated : (k : ℕ) → is_typed_relation k ≡ true → is_dated k ≡ false
typed_undated k e = grind (arith, nat_tests)

meaning_known : (names : NameLists) (triples : List (ℕ × Triple)) (t : Triple) (s : Statement) → fits names t ≡ true → kinds_of names triples t ≡ [] →
    meaning_of names triples t ≡ Some s → is_dated s.code ≡ true → is_some (instant_of names s) ≡ true
meaning_known names triples t s fit none e dated = by (makes_relation names t) e
  where
    clean : IsClean (own_faults names (declared_in names triples) t)
    clean = no_kinds (own_faults names (declared_in names triples) t) (has_a1 names (declared_in names triples) (parts_in names triples) t) none

    related : (o : Option Relation) → relation_of names triples t.s ≡ o → by_relation o ≡ Some s → is_some (instant_of names s) ≡ true
    related None is h = absurd (no_statement s h)
    related (Some r) is h =
        absurd (both_ways (is_dated r.kind)
        (typed_undated r.kind (typed_with names (declared_in names triples) (parts_in names triples t.s).from (parts_in names triples t.s).to (parts_in names triples t.s).kind r is))
        (ap (λ (u : Statement). is_dated u.code) (same_statement (record { code = r.kind; domain = r.from; range = r.to }) s h) ∙ dated))

    made : (p : Prop) (b : Bool) → property_of names t.p ≡ Some p →
        cond b (Some (record { code = p.code; domain = domain_end p t; range = range_end p t })) None ≡ Some s → is_some (instant_of names s) ≡ true
    made p false is h = absurd (no_statement s h)
    made p true is h =
        let same : (record { code = p.code; domain = domain_end p t; range = range_end p t }) ≡ s
        = same_statement (record { code = p.code; domain = domain_end p t; range = range_end p t }) s h in
        let day : is_dated p.code ≡ true = ap (λ (u : Statement). is_dated u.code) same ∙ dated in
        subst (λ (u : Statement). is_some (instant_of names u) ≡ true) same
        (known_date names t p (property_dated names t.p p is day) day fit (subst (λ (o : Option Prop). has_r3 t o ≡ false) is clean.r3)
        (subst (λ (o : Option Prop). date_fault names t o ≡ None) is clean.r4))

    stated : (o : Option Prop) → property_of names t.p ≡ o → by_property t o ≡ Some s → is_some (instant_of names s) ≡ true
    stated None is h = absurd (no_statement s h)
    stated (Some p) is h = made p (makes_orders p.code) is h

    by : (b : Bool) → cond b (by_relation (relation_of names triples t.s)) (by_property t (property_of names t.p)) ≡ Some s →
        is_some (instant_of names s) ≡ true
    by true h = related (relation_of names triples t.s) refl h
    by false h = stated (property_of names t.p) refl h

fit_at : (names : NameLists) (ps : List (ℕ × Triple)) → AllFit names (map (λ (p : ℕ × Triple). p.1) ps) → (k : ℕ) (d : ℕ × Triple) → k < length ps →
    fits names (get_or ps k d).1 ≡ true
fit_at names [] h k d l = absurd (omega arith)
fit_at names (p ∷ ps) h zero d l = h 0 p.1 (omega arith)
fit_at names (p ∷ ps) h (suc k) d l = fit_at names ps (λ i e g. h (suc i) e (omega (arith, g))) k d (omega (arith, l))

pub dates_known : (names : NameLists) (triples : List (ℕ × Triple)) → AllFit names (map (λ (p : ℕ × Triple). p.1) triples) →
    All (λ (s : ℕ × Statement). is_dated s.1.code ≡ true → is_some (instant_of names s.1) ≡ true) (statements_of names triples (faults_of names triples))
dates_known names triples fit =
    All-from_recursion (λ (s : ℕ × Statement). is_dated s.1.code ≡ true → is_some (instant_of names s.1) ≡ true) (statements_of names triples (faults_of names triples))
    (all_given (statement_of names triples (faults_of names triples)) (λ (s : ℕ × Statement). is_dated s.1.code ≡ true → is_some (instant_of names s.1) ≡ true) triples
    (λ k d l q e dated.
    meaning_known names triples (get_or triples k d).1 q.1 (fit_at names triples fit k d l)
    (kinds_none names triples k d l (stated_sound names triples (faults_of names triples) (get_or triples k d) q e))
    (statement_comes names triples (faults_of names triples) (get_or triples k d) q e).meaning dated))
