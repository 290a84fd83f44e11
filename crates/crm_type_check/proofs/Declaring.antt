-- The marks of a node tell its declared classes.
use Rattle.std.proofs.Common.{ℕ, zero, suc, ◌≡◌, ◌<◌, ◌+◌, ◌&&◌, Bool, true, false, cond, Option, Some, None, List, [], ◌∷◌, get_or, length, position, nat_eq, nat_lt, refl, sym, ap, ◌∙◌, arith, inl, inr, subst}
use Rattle.std.specs.Prelude.{option_and_then, slice_index, bytes_eq, ◌==◌}
use Rattle.std.specs.List.{position_or_len}
use Rattle.std.proofs.lemmas.Bool.{false≢true, cases_Bool, cases_lt, and_parts, and_from, or_cases, or_left, or_right, both_ways, eqb-true, eq-eqb, cond-true, cond-false, lt-ltb, le-ltb}
use Rattle.rdf_terms.specs.declared.terms.Term.{Term}
use Rattle.rdf_terms.specs.declared.terms.Triple.{Triple}
use Rattle.rdf_terms.specs.Terms.{same_term}
use Rattle.rdf_terms.specs.Naming.{NameLists}
use Rattle.rdf_terms.specs.Fitting.{iri_of}
use Rattle.crm_classes.specs.Classes.{class_codes, class_of_text}
use Rattle.crm_classes.proofs.Codes.{classes_count}
use Rattle.crm_properties.specs.declared.Space.{Space}
use Rattle.crm_properties.specs.declared.Space.TheVariants.{Crm, Archaeo, Whole}
use Rattle.crm_properties.specs.Names.{class_in, class_of_iri_text, name_of}
use Rattle.crm_type_check.specs.declared.classes.ClassSet.{ClassSet}
use Rattle.crm_type_check.specs.declared.relation.RelationParts.{RelationParts}
use Rattle.crm_type_check.specs.Meaning.{passes, class_of, is_type}
use Rattle.crm_type_check.specs.Faults.{declares, declared_in}
use Rattle.crm_type_check.specs.Index.{some_from, by_marks, IsIndex}

-- each class has a number below 71
position_in : {X : Type 0} (p : X → Bool) (xs : List X) (k : ℕ) → position p xs ≡ Some k → k < length xs
position_in p xs k e = elim (cases_lt (position_or_len p xs) (length xs)) [
  | inl l ↦
      let found : Some (position_or_len p xs) ≡ Some k =
      sym (cond-true (nat_lt (position_or_len p xs) (length xs)) (Some (position_or_len p xs)) None (lt-ltb (position_or_len p xs) (length xs) l)) ∙ e in
      let same : position_or_len p xs ≡ k = cc in
      omega arith
  | inr l ↦ absurd (
      let none : None ≡ Some k =
      sym (cond-false (nat_lt (position_or_len p xs) (length xs)) (Some (position_or_len p xs)) None (le-ltb (position_or_len p xs) (length xs) l)) ∙ e in
      let never : ⊥ = cc in
      never)
]

text_in : (text : List ℕ) (c : ℕ) → class_of_text text ≡ Some c → c < 71
text_in text c e = omega (arith, classes_count, position_in (bytes_eq text) class_codes c e)

cond_in : (b : Bool) (text : List ℕ) (c : ℕ) → cond b (class_of_text text) None ≡ Some c → c < 71
cond_in true text c e = text_in text c e
cond_in false text c e = let never : ⊥ = cc in absurd never

space_in : (space : Space) (text : List ℕ) (c : ℕ) → class_in space text ≡ Some c → c < 71
space_in Crm text c e = cond_in (slice_index text 0 == 69) text c e
space_in Archaeo text c e = cond_in (slice_index text 0 == 65) text c e
space_in Whole text c e = let never : ⊥ = cc in absurd never

class_in_range : (iri : Option (List ℕ)) (c : ℕ) → option_and_then class_of_iri_text iri ≡ Some c → c < 71
class_in_range None c e = let never : ⊥ = cc in absurd never
class_in_range (Some iri) c e = space_in (name_of iri).space (name_of iri).text c e

-- the class that passes
passing : (test : ℕ → Bool) (o : Option ℕ) → passes test o ≡ true → (c : ℕ) × (o ≡ Some c) × (test c ≡ true)
passing test None h = absurd (false≢true h)
passing test (Some c) h = (c, refl, h)

-- what a triple declares by one test it declares by another that its class passes
declares_also : (names : NameLists) (node : Term) (test other : ℕ → Bool) (t : Triple) (c : ℕ) → class_of names t.o ≡ Some c → other c ≡ true →
    declares names node test t ≡ true → declares names node other t ≡ true
declares_also names node test other t c e h d =
    let outer = and_parts (same_term t.s node) (is_type names t && passes test (class_of names t.o)) d in
    let inner = and_parts (is_type names t) (passes test (class_of names t.o)) outer.1 in
    and_from (same_term t.s node) (is_type names t && passes other (class_of names t.o)) outer.0
    (and_from (is_type names t) (passes other (class_of names t.o)) inner.0 (ap (passes other) e ∙ h))

class_declared : (names : NameLists) (node : Term) (test : ℕ → Bool) (t : Triple) → declares names node test t ≡ true →
    (c : ℕ) × (class_of names t.o ≡ Some c) × (test c ≡ true)
class_declared names node test t d =
    let outer = and_parts (same_term t.s node) (is_type names t && passes test (class_of names t.o)) d in
    let inner = and_parts (is_type names t) (passes test (class_of names t.o)) outer.1 in
    passing test (class_of names t.o) inner.1

to_class : (names : NameLists) (node : Term) (test : ℕ → Bool) (ps : List (ℕ × Triple)) → declared_in names ps node test ≡ true →
    (c : ℕ) × (c < 71) × (test c ≡ true) × (declared_in names ps node (nat_eq c) ≡ true)
to_class names node test [] h = absurd (false≢true h)
to_class names node test (p ∷ ps) h =
    elim (or_cases (declares names node test p.1) (declared_in names ps node test) h) [
      | inl here ↦
          (let found = class_declared names node test p.1 here in (
            found.0,
            class_in_range (iri_of names p.1.o) found.0 found.1,
            found.2,
            or_left (declares names node (nat_eq found.0) p.1) (declared_in names ps node (nat_eq found.0))
                (declares_also names node test (nat_eq found.0) p.1 found.0 found.1 (eq-eqb found.0 found.0 refl) here),
          ))
      | inr later ↦
          (let found = to_class names node test ps later in
          (found.0, found.1, found.2, or_right (declares names node (nat_eq found.0) p.1) (declared_in names ps node (nat_eq found.0)) found.3))
    ]

from_class : (names : NameLists) (node : Term) (test : ℕ → Bool) (ps : List (ℕ × Triple)) (c : ℕ) → test c ≡ true →
    declared_in names ps node (nat_eq c) ≡ true → declared_in names ps node test ≡ true
from_class names node test [] c h d = absurd (false≢true d)
from_class names node test (p ∷ ps) c h d =
    elim (or_cases (declares names node (nat_eq c) p.1) (declared_in names ps node (nat_eq c)) d) [
      | inl here ↦
          (let found = class_declared names node (nat_eq c) p.1 here in
          or_left (declares names node test p.1) (declared_in names ps node test)
          (declares_also names node (nat_eq c) test p.1 found.0 found.1 (subst (λ (n : ℕ). test n ≡ true) (eqb-true c found.0 found.2) h) here))
      | inr later ↦ or_right (declares names node test p.1) (declared_in names ps node test) (from_class names node test ps c h later)
    ]

mark_found : (n : ℕ) (ms : List Bool) (test : ℕ → Bool) → some_from n ms test ≡ true → (k : ℕ) × (k < length ms) × (get_or ms k false ≡ true) × (test (n + k) ≡ true)
mark_found n [] test h = absurd (false≢true h)
mark_found n (m ∷ ms) test h =
    elim (or_cases (m && test n) (some_from (suc n) ms test) h) [
      | inl here ↦
          (let parts = and_parts m (test n) here in
          (0, omega arith, parts.0, subst (λ (i : ℕ). test i ≡ true) (let e : n ≡ n + 0 = omega arith in e) parts.1))
      | inr later ↦
          (let found = mark_found (suc n) ms test later in
          (suc found.0, omega (arith, found.1), found.2, subst (λ (i : ℕ). test i ≡ true) (let e : suc n + found.0 ≡ n + suc found.0 = omega arith in e) found.3))
    ]

mark_counts : (n : ℕ) (ms : List Bool) (test : ℕ → Bool) (k : ℕ) → k < length ms → get_or ms k false ≡ true → test (n + k) ≡ true → some_from n ms test ≡ true
mark_counts n [] test k l m h = absurd (omega arith)
mark_counts n (m ∷ ms) test zero l here h =
    or_left (m && test n) (some_from (suc n) ms test) (and_from m (test n) here (subst (λ (i : ℕ). test i ≡ true) (let e : n + 0 ≡ n = omega arith in e) h))
mark_counts n (m ∷ ms) test (suc k) l there h =
    or_right (m && test n) (some_from (suc n) ms test)
    (mark_counts (suc n) ms test k (omega arith) there (subst (λ (i : ℕ). test i ≡ true) (let e : n + suc k ≡ suc n + k = omega arith in e) h))

pub marks_declare : (names : NameLists) (ps : List (ℕ × Triple)) (sets : Term → ClassSet) (relations : Term → RelationParts) → IsIndex names ps sets relations →
    (node : Term) (test : ℕ → Bool) → by_marks sets node test ≡ declared_in names ps node test
marks_declare names ps sets relations index node test =
    elim (cases_Bool (declared_in names ps node test)) [
      | inl declared ↦
          (let found = to_class names node test ps declared in
          mark_counts 0 (sets node).marks test found.0 (omega (arith, found.1, index.sizes node)) (index.marks node found.0 found.1 ∙ found.3)
          (subst (λ (i : ℕ). test i ≡ true) (let e : found.0 ≡ 0 + found.0 = omega arith in e) found.2)
          ∙ sym declared)
      | inr not_declared ↦ not_marked not_declared ∙ sym not_declared
    ]
  where
    not_marked : declared_in names ps node test ≡ false → by_marks sets node test ≡ false
    not_marked none =
        elim (cases_Bool (by_marks sets node test)) [
          | inl some ↦ absurd (
              let found = mark_found 0 (sets node).marks test some in
              let small : found.0 < 71 = omega (arith, found.1, index.sizes node) in
              both_ways (declared_in names ps node test) none
              (from_class names node test ps found.0 (subst (λ (i : ℕ). test i ≡ true) (let e : 0 + found.0 ≡ found.0 = omega arith in e) found.3)
              (sym (index.marks node found.0 small) ∙ found.2)))
          | inr off ↦ off
        ]
