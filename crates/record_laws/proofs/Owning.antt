-- The faults of a triple that need no relation.
use Rattle.std.proofs.Common.{◌≡◌, ℕ, Bool, true, false, ◌&&◌, not, cond, Option, Some, None, List, refl, sym, ap, ◌∙◌}
use Rattle.std.specs.Prelude.{option_and_then, bytes_eq}
use Rattle.rdf_terms.specs.declared.terms.Term.{Term}
use Rattle.rdf_terms.specs.declared.terms.Triple.{Triple}
use Rattle.rdf_terms.specs.declared.terms.Literal.{Literal}
use Rattle.rdf_terms.specs.Terms.{same_term}
use Rattle.rdf_terms.specs.Naming.{NameLists}
use Rattle.rdf_terms.specs.Fitting.{is_literal, iri_of, literal_of}
use Rattle.rdf_vocabulary.specs.Iris.{rdf_type}
use Rattle.crm_classes.specs.Classes.{is_comparable, is_incompatible}
use Rattle.crm_properties.specs.declared.Prop.{Prop}
use Rattle.crm_properties.specs.declared.RangeKind.{RangeKind}
use Rattle.crm_properties.specs.declared.RangeKind.TheVariants.{Class, Text, Date}
use Rattle.crm_properties.specs.Names.{row_at, prop_of_text, class_of_iri_text, relation_iri}
use Rattle.time_primitive.specs.declared.DateFault.{DateFault}
use Rattle.triple_pool.specs.Pool.{number_from}
use Rattle.crm_type_check.specs.declared.own.OwnFaults.{OwnFaults}
use Rattle.crm_type_check.specs.Meaning.{passes, property_of, class_of, is_type, makes_relation}
use Rattle.crm_type_check.specs.Faults.{Declared, declared_in, declares, misfits, misfits_range, domain_end, range_end, is_checked, is_class, is_date, has_c1, has_c2, has_c3, has_d1, has_r1, has_r2, has_r3, date_fault, fault_in_literal, own_faults}
use Rattle.record_laws.specs.Renaming.{IsRenamed}
use Rattle.record_laws.proofs.OneWay.{Renames, OneWay}
use Rattle.record_laws.proofs.Members.{any_same, any_numbered}

pub passes_same : {X : Type 0} (p q : X → Bool) (o : Option X) → ((x : X) → p x ≡ q x) → passes p o ≡ passes q o
passes_same p q None h = refl
passes_same p q (Some x) h = h x

cond_same : {X Y : Type 0} (f : X → Y) (b : Bool) (x y : X) → cond b (f x) (f y) ≡ f (cond b x y)
cond_same f true x y = refl
cond_same f false x y = refl

abbrev own_with : Bool → Bool → Bool → Bool → Bool → Bool → Bool → Option DateFault → OwnFaults
own_with c1 c2 c3 d1 r1 r2 r3 r4 = record { c1 = c1; c2 = c2; c3 = c3; d1 = d1; r1 = r1; r2 = r2; r3 = r3; r4 = r4 }

own_ext : {a b c d e f g a' b' c' d' e' f' g' : Bool} {h h' : Option DateFault} → a ≡ a' → b ≡ b' → c ≡ c' → d ≡ d' → e ≡ e' → f ≡ f' → g ≡ g' → h ≡ h'
    → own_with a b c d e f g h ≡ own_with a' b' c' d' e' f' g' h'
own_ext pa pb pc pd pe pf pg ph = cc

module _ (names other : NameLists) (m : Term → Term) (is : Renames names other m) where
  pub property_same : (t u : Term) → u ≡ m t → property_of other u ≡ property_of names t
  property_same t u e = ap (λ (x : Term). property_of other x) e ∙ ap (option_and_then prop_of_text) (is.iris t)

  pub class_same : (t u : Term) → u ≡ m t → class_of other u ≡ class_of names t
  class_same t u e = ap (λ (x : Term). class_of other x) e ∙ ap (option_and_then class_of_iri_text) (is.iris t)

  literal_same : (t u : Term) → u ≡ m t → is_literal u ≡ is_literal t
  literal_same t u e = ap (λ (x : Term). is_literal x) e ∙ is.sorts t

  text_same : (t u : Term) → u ≡ m t → literal_of other u ≡ literal_of names t
  text_same t u e = ap (literal_of other) e ∙ is.literals t

  named_same : (iri : List ℕ) (t u : Term) → u ≡ m t → passes (bytes_eq iri) (iri_of other u) ≡ passes (bytes_eq iri) (iri_of names t)
  named_same iri t u e = ap (λ (x : Term). passes (bytes_eq iri) (iri_of other x)) e ∙ ap (λ (o : Option (List ℕ)). passes (bytes_eq iri) o) (is.iris t)

  pub type_same : (t u : Triple) → IsRenamed m t u → is_type other u ≡ is_type names t
  type_same t u r = named_same rdf_type t.p u.p r.p

  pub relation_same : (t u : Triple) → IsRenamed m t u → makes_relation other u ≡ makes_relation names t
  relation_same t u r = ap (λ (b : Bool). b && passes (bytes_eq relation_iri) (iri_of other u.o)) (type_same t u r) ∙ ap (λ (b : Bool). is_type names t && b) (named_same relation_iri t.o u.o r.o)

  pub subject_same : (t u : Triple) (node : Term) → IsRenamed m t u → same_term u.s (m node) ≡ same_term t.s node
  subject_same t u node r = ap (λ (x : Term). same_term x (m node)) r.s ∙ is.apart t.s node

  pub domain_same : (p : Prop) (t u : Triple) → IsRenamed m t u → domain_end p u ≡ m (domain_end p t)
  domain_same p t u r = ap (λ (x : Term). cond p.inverse x u.s) r.o ∙ ap (λ (x : Term). cond p.inverse (m t.o) x) r.s ∙ cond_same m p.inverse t.o t.s

  pub range_same : (p : Prop) (t u : Triple) → IsRenamed m t u → range_end p u ≡ m (range_end p t)
  range_same p t u r = ap (λ (x : Term). cond p.inverse x u.o) r.s ∙ ap (λ (x : Term). cond p.inverse (m t.s) x) r.o ∙ cond_same m p.inverse t.s t.o

  declares_same : (t u : Triple) (node : Term) (test : ℕ → Bool) → IsRenamed m t u → declares other (m node) test u ≡ declares names node test t
  declares_same t u node test r = rw (subject_same t u node r, type_same t u r, class_same t.o u.o r.o) refl

  -- the declared classes of a node and of the one that it becomes
  module _ (d e : Declared) (declared : (node : Term) (test : ℕ → Bool) → e (m node) test ≡ d node test) where
    misfits_same : (node x : Term) (class : ℕ) → x ≡ m node → misfits e x class ≡ misfits d node class
    misfits_same node x class is_x = ap (λ (y : Term). misfits e y class) is_x ∙ rw (declared node (λ c. true), declared node (is_comparable class)) refl

    misfits_range_same : (node x : Term) (kind : RangeKind) → x ≡ m node → misfits_range e x kind ≡ misfits_range d node kind
    misfits_range_same node x (Class c) is_x = misfits_same node x c is_x
    misfits_range_same node x Text is_x = refl
    misfits_range_same node x Date is_x = refl

    module _ (t u : Triple) (r : IsRenamed m t u) where
      c1_same : has_c1 other u ≡ has_c1 names t
      c1_same = rw (type_same t u r, literal_same t.o u.o r.o) refl

      c2_same : has_c2 other e u ≡ has_c2 names d t
      c2_same =
          ap (λ (b : Bool). b && passes (λ c. e u.s (is_incompatible c)) (class_of other u.o)) (type_same t u r)
          ∙ ap (λ (o : Option ℕ). is_type names t && passes (λ c. e u.s (is_incompatible c)) o) (class_same t.o u.o r.o)
          ∙ ap (λ (b : Bool). is_type names t && b) (passes_same (λ c. e u.s (is_incompatible c)) (λ c. d t.s (is_incompatible c)) (class_of names t.o)
          (λ c. ap (λ (x : Term). e x (is_incompatible c)) r.s ∙ declared t.s (is_incompatible c)))

      c3_same : has_c3 other u ≡ has_c3 names t
      c3_same = rw (type_same t u r, property_same t.o u.o r.o) refl

      d1_same : (o : Option Prop) → has_d1 e u o ≡ has_d1 d t o
      d1_same o = passes_same (λ p. is_checked p && misfits e (domain_end p u) (row_at p.code).domain) (λ p. is_checked p && misfits d (domain_end p t) (row_at p.code).domain) o
          (λ p. ap (λ (b : Bool). is_checked p && b) (misfits_same (domain_end p t) (domain_end p u) (row_at p.code).domain (domain_same p t u r)))

      r1_same : (o : Option Prop) → has_r1 e u o ≡ has_r1 d t o
      r1_same o = passes_same (λ p. is_checked p && misfits_range e (range_end p u) (row_at p.code).range) (λ p. is_checked p && misfits_range d (range_end p t) (row_at p.code).range) o
          (λ p. ap (λ (b : Bool). is_checked p && b) (misfits_range_same (range_end p t) (range_end p u) (row_at p.code).range (range_same p t u r)))

      r2_same : (o : Option Prop) → has_r2 u o ≡ has_r2 t o
      r2_same o = ap (λ (b : Bool). b && passes (λ p. is_checked p && is_class (row_at p.code).range) o) (literal_same t.o u.o r.o)

      r3_same : (o : Option Prop) → has_r3 u o ≡ has_r3 t o
      r3_same o = ap (λ (b : Bool). not b && passes (λ p. not (is_class (row_at p.code).range)) o) (literal_same t.o u.o r.o)

      date_same : (o : Option Prop) → date_fault other u o ≡ date_fault names t o
      date_same None = refl
      date_same (Some p) = ap (λ (l : Option Literal). cond (is_date (row_at p.code).range) (fault_in_literal p l) None) (text_same t.o u.o r.o)

      pub own_same : own_faults other e u ≡ own_faults names d t
      own_same =
          let p = property_same t.p u.p r.p in
          own_ext c1_same c2_same c3_same (ap (λ (o : Option Prop). has_d1 e u o) p ∙ d1_same (property_of names t.p)) (ap (λ (o : Option Prop). has_r1 e u o) p ∙ r1_same (property_of names t.p))
          (ap (λ (o : Option Prop). has_r2 u o) p ∙ r2_same (property_of names t.p)) (ap (λ (o : Option Prop). has_r3 u o) p ∙ r3_same (property_of names t.p))
          (ap (λ (o : Option Prop). date_fault other u o) p ∙ date_same (property_of names t.p))

  pub declared_same : (triples others : List Triple) → OneWay names triples other others m → (node : Term) (test : ℕ → Bool)
      → declared_in other (number_from 0 others) (m node) test ≡ declared_in names (number_from 0 triples) node test
  declared_same triples others same node test =
      any_numbered (declares other (m node) test) 0 others
      ∙ any_same names other triples others m same (declares names node test) (declares other (m node) test) (λ t u r. declares_same t u node test r)
      ∙ sym (any_numbered (declares names node test) 0 triples)
