-- Which nodes are extents, and which are periods.
use Rattle.std.proofs.Common.{◌≡◌, ℕ, suc, ◌≤◌, inl, inr, Bool, true, false, true≢false, ◌&&◌, ◌||◌, not, cond, Option, Some, None, List, [], ◌∷◌, map, refl, sym, ap, ◌∙◌, arith}
use Rattle.std.specs.Prelude.{◌==◌}
use Rattle.std.specs.Option.{option_map}
use Rattle.std.specs.List.{list_any, filter_map, flat_map, cons_option}
use Rattle.std.proofs.lemmas.Bool.{eqb-true, eq-eqb}
use Rattle.std.proofs.lemmas.List.Folds.{list_any-append}
use Rattle.rdf_terms.specs.declared.terms.Term.{Term}
use Rattle.rdf_terms.specs.declared.terms.Triple.{Triple}
use Rattle.rdf_terms.specs.Terms.{same_term}
use Rattle.rdf_terms.specs.Naming.{NameLists}
use Rattle.triple_pool.specs.Pool.{number_from}
use Rattle.crm_properties.specs.declared.Prop.{Prop}
use Rattle.crm_properties.specs.PropertyNumbers.{p4, p160, p86}
use Rattle.crm_classes.specs.Classes.{is_within, e2, e52, e92}
use Rattle.crm_type_check.specs.declared.Fault.{Fault}
use Rattle.crm_type_check.specs.declared.FaultKind.{FaultKind}
use Rattle.crm_type_check.specs.declared.relation.Relation.{Relation}
use Rattle.crm_type_check.specs.Meaning.{passes, property_of, class_of, is_type, makes_relation}
use Rattle.crm_type_check.specs.Faults.{domain_end, range_end}
use Rattle.crm_type_check.specs.Relations.{kinds_of, fault_at, faults_at, faults_of, relation_of}
use Rattle.boundary_orders.specs.declared.statements.Statement.{Statement}
use Rattle.boundary_orders.specs.Statements.{is_faulty, is_dated, makes_orders, by_property, by_relation, meaning_of, statement_of, statements_of}
use Rattle.boundary_orders.specs.Extents.{ends_of, by_class, by_type, standings_of, is_extent, is_period, kind_of}
use Rattle.record_laws.specs.Renaming.{IsRenamed, renamed_relation, renamed_statement}
use Rattle.record_laws.proofs.OneWay.{OneWay, same_bool}
use Rattle.record_laws.proofs.Members.{In, any_in, in_any, any_same, any_numbered}
use Rattle.record_laws.proofs.Owning.{property_same, class_same, type_same, relation_same, domain_same, range_same}
use Rattle.record_laws.proofs.Faulted.{full_relation_same, kinds_same}

any_within : {X : Type 0} (P Q : X → Bool) (xs : List X) → ((x : X) → In x xs → P x ≡ Q x) → list_any P xs ≡ list_any Q xs
any_within P Q [] h = refl
any_within P Q (x ∷ xs) h = ap (λ (b : Bool). b || list_any P xs) (h x (inl refl)) ∙ ap (λ (b : Bool). Q x || b) (any_within P Q xs (λ y i. h y (inr i)))

pub any_flat : {X Y : Type 0} (P : Y → Bool) (g : X → List Y) (xs : List X) → list_any P (flat_map g xs) ≡ list_any (λ x. list_any P (g x)) xs
any_flat P g [] = refl
any_flat P g (x ∷ xs) = list_any-append P (g x) (flat_map g xs) ∙ ap (λ (b : Bool). list_any P (g x) || b) (any_flat P g xs)

any_option : {Y : Type 0} (P : Y → Bool) (o : Option Y) (ys : List Y) → list_any P (cons_option o ys) ≡ (passes P o || list_any P ys)
any_option P None ys = refl
any_option P (Some y) ys = refl

pub any_filtered : {X Y : Type 0} (P : Y → Bool) (h : X → Option Y) (xs : List X) → list_any P (filter_map h xs) ≡ list_any (λ x. passes P (h x)) xs
any_filtered P h [] = refl
any_filtered P h (x ∷ xs) = any_option P (h x) (filter_map h xs) ∙ ap (λ (b : Bool). passes P (h x) || b) (any_filtered P h xs)

any_mapped : {X Y : Type 0} (P : Y → Bool) (Q : X → Bool) (f : X → Y) → ((x : X) → P (f x) ≡ Q x) → (xs : List X) → list_any P (map f xs) ≡ list_any Q xs
any_mapped P Q f h [] = refl
any_mapped P Q f h (x ∷ xs) = ap (λ (b : Bool). b || list_any P (map f xs)) (h x) ∙ ap (λ (b : Bool). Q x || b) (any_mapped P Q f h xs)

-- a number is that of one triple
low_number : (n : ℕ) (ts : List Triple) (p : ℕ × Triple) → In p (number_from n ts) → n ≤ p.0
low_number n [] p h = absurd h
low_number n (t ∷ ts) p (inl e) = let first : p.0 ≡ n = ap (λ (q : ℕ × Triple). q.0) e in omega arith
low_number n (t ∷ ts) p (inr h) = let more : suc n ≤ p.0 = low_number (suc n) ts p h in omega arith

one_number : (n : ℕ) (ts : List Triple) (p q : ℕ × Triple) → In p (number_from n ts) → In q (number_from n ts) → p.0 ≡ q.0 → p ≡ q
one_number n [] p q h i e = absurd h
one_number n (t ∷ ts) p q (inl a) (inl b) e = a ∙ sym b
one_number n (t ∷ ts) p q (inl a) (inr i) e =
    let first : p.0 ≡ n = ap (λ (x : ℕ × Triple). x.0) a in let more : suc n ≤ q.0 = low_number (suc n) ts q i in absurd (omega arith)
one_number n (t ∷ ts) p q (inr h) (inl b) e =
    let first : q.0 ≡ n = ap (λ (x : ℕ × Triple). x.0) b in let more : suc n ≤ p.0 = low_number (suc n) ts p h in absurd (omega arith)
one_number n (t ∷ ts) p q (inr h) (inr i) e = one_number (suc n) ts p q h i e

-- some kind is there
abbrev pub some_kind : List FaultKind → Bool
some_kind [] = false
some_kind (k ∷ ks) = true

named_by : (n : ℕ) (t : Triple) (at : ℕ) (ks : List FaultKind) → list_any (λ (f : Fault). f.triple == n) (map (fault_at at t) ks) ≡ (at == n && some_kind ks)
named_by n t at [] = by (at == n)
  where
    by : (b : Bool) → false ≡ (b && false)
    by true = refl
    by false = refl
named_by n t at (k ∷ ks) = rw (named_by n t at ks) (by (at == n) (some_kind ks))
  where
    by : (b c : Bool) → (b || (b && c)) ≡ (b && true)
    by true c = refl
    by false c = refl

-- a triple is faulty where it has a kind of faults
pub faulty_is : (names : NameLists) (ts : List Triple) (p : ℕ × Triple) → In p (number_from 0 ts)
    → is_faulty (faults_of names (number_from 0 ts)) p.0 ≡ some_kind (kinds_of names (number_from 0 ts) p.1)
faulty_is names ts p h = any_flat (λ (f : Fault). f.triple == p.0) (faults_at names pairs) pairs ∙ same_bool (list_any (λ q. list_any (λ (f : Fault). f.triple == p.0) (faults_at names pairs q)) pairs) (some_kind (kinds_of names pairs p.1)) to from
  where
    pairs : List (ℕ × Triple)
    pairs = number_from 0 ts

    both : (b c : Bool) → (b && c) ≡ true → (b ≡ true) × (c ≡ true)
    both true c e = (refl, e)
    both false c e = absurd (true≢false (sym e))

    to : list_any (λ q. list_any (λ (f : Fault). f.triple == p.0) (faults_at names pairs q)) pairs ≡ true → some_kind (kinds_of names pairs p.1) ≡ true
    to e =
        let r = in_any (λ q. list_any (λ (f : Fault). f.triple == p.0) (faults_at names pairs q)) pairs e in
        let b = both (r.0.0 == p.0) (some_kind (kinds_of names pairs r.0.1)) (sym (named_by p.0 r.0.1 r.0.0 (kinds_of names pairs r.0.1)) ∙ r.2) in
        let same : r.0 ≡ p = one_number 0 ts r.0 p r.1 h (eqb-true r.0.0 p.0 b.0) in
        ap (λ (q : ℕ × Triple). some_kind (kinds_of names pairs q.1)) (sym same) ∙ b.1

    from : some_kind (kinds_of names pairs p.1) ≡ true → list_any (λ q. list_any (λ (f : Fault). f.triple == p.0) (faults_at names pairs q)) pairs ≡ true
    from e = any_in (λ q. list_any (λ (f : Fault). f.triple == p.0) (faults_at names pairs q)) pairs p h
        (named_by p.0 p.1 p.0 (kinds_of names pairs p.1) ∙ rw (eq-eqb p.0 p.0 refl, e) refl)

module _ (names : NameLists) (triples : List Triple) (S : Term × Bool → Bool) where
  -- a node stands so by what a triple states, or by its type
  pub stated_so : Triple → Bool
  stated_so t = passes (λ s. list_any S (ends_of s)) (cond (some_kind (kinds_of names (number_from 0 triples) t)) None (meaning_of names (number_from 0 triples) t))

  pub typed_so : Triple → Bool
  typed_so t = list_any S (cond (some_kind (kinds_of names (number_from 0 triples) t) || not (is_type names t)) [] (by_class t.s (class_of names t.o)))

  numbered_statement : (b : Bool) (n : ℕ) (o : Option Statement) → passes (λ (s : ℕ × Statement). list_any S (ends_of s.1)) (cond b None (option_map (λ s. (n, s)) o)) ≡ passes (λ s. list_any S (ends_of s)) (cond b None o)
  numbered_statement true n o = refl
  numbered_statement false n None = refl
  numbered_statement false n (Some s) = refl

  pub standing_is : list_any S (standings_of names (number_from 0 triples) (faults_of names (number_from 0 triples))) ≡ (list_any stated_so triples || list_any typed_so triples)
  unfolding stated_so typed_so
  standing_is =
      list_any-append S (flat_map (λ s. ends_of s.1) (statements_of names pairs faults)) (flat_map (by_type names faults) pairs)
      ∙ ap (λ (b : Bool). b || list_any S (flat_map (by_type names faults) pairs)) stated
      ∙ ap (λ (b : Bool). list_any stated_so triples || b) typed
    where
      pairs : List (ℕ × Triple)
      pairs = number_from 0 triples

      faults : List Fault
      faults = faults_of names pairs

      stated : list_any S (flat_map (λ s. ends_of s.1) (statements_of names pairs faults)) ≡ list_any stated_so triples
      stated =
          any_flat S (λ (s : ℕ × Statement). ends_of s.1) (statements_of names pairs faults)
          ∙ any_filtered (λ (s : ℕ × Statement). list_any S (ends_of s.1)) (statement_of names pairs faults) pairs
          ∙ any_within (λ p. passes (λ (s : ℕ × Statement). list_any S (ends_of s.1)) (statement_of names pairs faults p)) (λ p. stated_so p.1) pairs
          (λ p h. ap (λ (b : Bool). passes (λ (s : ℕ × Statement). list_any S (ends_of s.1)) (cond b None (option_map (λ s. (p.0, s)) (meaning_of names pairs p.1)))) (faulty_is names triples p h)
          ∙ numbered_statement (some_kind (kinds_of names pairs p.1)) p.0 (meaning_of names pairs p.1))
          ∙ any_numbered stated_so 0 triples

      typed : list_any S (flat_map (by_type names faults) pairs) ≡ list_any typed_so triples
      typed =
          any_flat S (by_type names faults) pairs
          ∙ any_within (λ p. list_any S (by_type names faults p)) (λ p. typed_so p.1) pairs
          (λ p h. ap (λ (b : Bool). list_any S (cond (b || not (is_type names p.1)) [] (by_class p.1.s (class_of names p.1.o)))) (faulty_is names triples p h))
          ∙ any_numbered typed_so 0 triples

module _ (names other : NameLists) (triples others : List Triple) (m : Term → Term) (same : OneWay names triples other others m) where
  abbrev become : Term × Bool → Term × Bool
  become e = (m e.0, e.1)

  ends_same : (s : Statement) → ends_of (renamed_statement m s) ≡ map become (ends_of s)
  ends_same s = by (is_dated s.code)
    where
      by : (b : Bool) → cond b ((m s.domain, false) ∷ []) ((m s.domain, not (s.code == p86)) ∷ (m s.range, not (s.code == p4 || s.code == p160 || s.code == p86)) ∷ [])
          ≡ map become (cond b ((s.domain, false) ∷ []) ((s.domain, not (s.code == p86)) ∷ (s.range, not (s.code == p4 || s.code == p160 || s.code == p86)) ∷ []))
      by true = refl
      by false = refl

  class_ends : (x : Term) (o : Option ℕ) → by_class (m x) o ≡ map become (by_class x o)
  class_ends x None = refl
  class_ends x (Some c) = by (is_within c e2 || is_within c e92) (is_within c e52)
    where
      by : (a b : Bool) → cond a ((m x, true) ∷ []) (cond b ((m x, false) ∷ []) []) ≡ map become (cond a ((x, true) ∷ []) (cond b ((x, false) ∷ []) []))
      by true b = refl
      by false true = refl
      by false false = refl

  property_meaning : (t u : Triple) (o : Option Prop) → IsRenamed m t u → by_property u o ≡ option_map (renamed_statement m) (by_property t o)
  property_meaning t u None r = refl
  property_meaning t u (Some p) r = rw (domain_same names other m same.renaming p t u r, range_same names other m same.renaming p t u r) (by (makes_orders p.code))
    where
      by : (b : Bool) → cond b (Some (record { code = p.code; domain = m (domain_end p t); range = m (range_end p t) })) None
          ≡ option_map (renamed_statement m) (cond b (Some (record { code = p.code; domain = domain_end p t; range = range_end p t })) None)
      by true = refl
      by false = refl

  relation_meaning : (o : Option Relation) → by_relation (option_map (renamed_relation m) o) ≡ option_map (renamed_statement m) (by_relation o)
  relation_meaning None = refl
  relation_meaning (Some r) = refl

  -- what a triple states
  pub meaning_same : (t u : Triple) → IsRenamed m t u → meaning_of other (number_from 0 others) u ≡ option_map (renamed_statement m) (meaning_of names (number_from 0 triples) t)
  meaning_same t u r =
      ap (λ (b : Bool). cond b (by_relation (relation_of other (number_from 0 others) u.s)) (by_property u (property_of other u.p))) (relation_same names other m same.renaming t u r)
      ∙ by (makes_relation names t) _ _ _ _
      (ap (λ (x : Term). by_relation (relation_of other (number_from 0 others) x)) r.s ∙ ap (λ (o : Option Relation). by_relation o) (full_relation_same names other triples others m same t.s) ∙ relation_meaning (relation_of names (number_from 0 triples) t.s))
      (ap (λ (o : Option Prop). by_property u o) (property_same names other m same.renaming t.p u.p r.p) ∙ property_meaning t u (property_of names t.p) r)
    where
      by : (b : Bool) (x y x' y' : Option Statement) → x' ≡ option_map (renamed_statement m) x → y' ≡ option_map (renamed_statement m) y → cond b x' y' ≡ option_map (renamed_statement m) (cond b x y)
      by true x y x' y' p q = p
      by false x y x' y' p q = q

  module _ (S S' : Term × Bool → Bool) (alike : (x : Term) (b : Bool) → S' (m x, b) ≡ S (x, b)) where
    stated_same : (t u : Triple) → IsRenamed m t u → stated_so other others S' u ≡ stated_so names triples S t
    unfolding stated_so
    stated_same t u r =
        ap (λ (ks : List FaultKind). passes (λ s. list_any S' (ends_of s)) (cond (some_kind ks) None (meaning_of other (number_from 0 others) u))) (kinds_same names other triples others m same t u r)
        ∙ ap (λ (o : Option Statement). passes (λ s. list_any S' (ends_of s)) (cond (some_kind (kinds_of names (number_from 0 triples) t)) None o)) (meaning_same t u r)
        ∙ by (some_kind (kinds_of names (number_from 0 triples) t)) (meaning_of names (number_from 0 triples) t)
      where
        by : (b : Bool) (o : Option Statement) → passes (λ s. list_any S' (ends_of s)) (cond b None (option_map (renamed_statement m) o)) ≡ passes (λ s. list_any S (ends_of s)) (cond b None o)
        by true o = refl
        by false None = refl
        by false (Some s) = ap (list_any S') (ends_same s) ∙ any_mapped S' S become (λ e. alike e.0 e.1) (ends_of s)

    typed_same : (t u : Triple) → IsRenamed m t u → typed_so other others S' u ≡ typed_so names triples S t
    unfolding typed_so
    typed_same t u r =
        ap (λ (ks : List FaultKind). list_any S' (cond (some_kind ks || not (is_type other u)) [] (by_class u.s (class_of other u.o)))) (kinds_same names other triples others m same t u r)
        ∙ ap (λ (b : Bool). list_any S' (cond (some_kind (kinds_of names (number_from 0 triples) t) || not b) [] (by_class u.s (class_of other u.o)))) (type_same names other m same.renaming t u r)
        ∙ ap (λ (x : Term). list_any S' (cond (some_kind (kinds_of names (number_from 0 triples) t) || not (is_type names t)) [] (by_class x (class_of other u.o)))) r.s
        ∙ ap (λ (o : Option ℕ). list_any S' (cond (some_kind (kinds_of names (number_from 0 triples) t) || not (is_type names t)) [] (by_class (m t.s) o))) (class_same names other m same.renaming t.o u.o r.o)
        ∙ by (some_kind (kinds_of names (number_from 0 triples) t) || not (is_type names t)) (class_of names t.o)
      where
        by : (b : Bool) (o : Option ℕ) → list_any S' (cond b [] (by_class (m t.s) o)) ≡ list_any S (cond b [] (by_class t.s o))
        by true o = refl
        by false o = ap (list_any S') (class_ends t.s o) ∙ any_mapped S' S become (λ e. alike e.0 e.1) (by_class t.s o)

    pub standing_same : list_any S' (standings_of other (number_from 0 others) (faults_of other (number_from 0 others))) ≡ list_any S (standings_of names (number_from 0 triples) (faults_of names (number_from 0 triples)))
    standing_same =
        standing_is other others S'
        ∙ ap (λ (b : Bool). b || list_any (typed_so other others S') others) (any_same names other triples others m same (stated_so names triples S) (stated_so other others S') stated_same)
        ∙ ap (λ (b : Bool). list_any (stated_so names triples S) triples || b) (any_same names other triples others m same (typed_so names triples S) (typed_so other others S') typed_same)
        ∙ sym (standing_is names triples S)

  pub kind_same : (node : Term) → kind_of (standings_of other (number_from 0 others) (faults_of other (number_from 0 others))) (m node) ≡ kind_of (standings_of names (number_from 0 triples) (faults_of names (number_from 0 triples))) node
  kind_same node =
      let extent = standing_same (λ s. same_term s.0 node) (λ s. same_term s.0 (m node)) (λ x b. same.renaming.apart x node) in
      let period = standing_same (λ s. same_term s.0 node && s.1) (λ s. same_term s.0 (m node) && s.1) (λ x b. ap (λ (c : Bool). c && b) (same.renaming.apart x node)) in
      ap (λ (b : Bool). cond b (Some (is_period (standings_of other (number_from 0 others) (faults_of other (number_from 0 others))) (m node))) None) extent
      ∙ ap (λ (b : Bool). cond (is_extent (standings_of names (number_from 0 triples) (faults_of names (number_from 0 triples))) node) (Some b) None) period
