-- What a line does to the names and labels.
use Rattle.std.proofs.Common.{ℕ, List, ◌≡◌, ◌<◌, ◌≤◌, ◌+◌, ◌^◌, Bool, true, false, cond, length, map, is_some, slice_get, bytes_eq, refl, ap, ap₂, sym, ◌∙◌, subst, arith, true≢false}
use Rattle.std.proofs.lemmas.Bool.{and_parts, cond-true}
use Rattle.std.specs.Prelude.{Option, None, Some}
use Rattle.rdf_terms.specs.Naming.{NameLists, same_literal, iri_number, with_iri, literal_number, with_literal}
use Rattle.rdf_terms.specs.Terms.{with_triple}
use Rattle.rdf_terms.specs.declared.terms.Code.{Code}
use Rattle.rdf_terms.specs.declared.terms.Code.TheVariants.{L4, L5}
use Rattle.rdf_terms.specs.declared.terms.Literal.{Literal}
use Rattle.rdf_terms.specs.declared.terms.Term.{Term}
use Rattle.rdf_terms.specs.declared.terms.Term.TheVariants as term
use Rattle.rdf_terms.specs.declared.terms.Triple.{Triple}
use Rattle.ntriples_reader.specs.declared.line.Sort.{Sort}
use Rattle.ntriples_reader.specs.declared.line.Sort.TheVariants as sort
use Rattle.ntriples_reader.specs.declared.store.Store.{Store}
use Rattle.ntriples_reader.specs.Lines.{LineState}
use Rattle.ntriples_reader.specs.Storing.{label_number, with_label, literal_of, node_term, node_store, with_room, by_term, with_object, with_predicate, with_line}
use Rattle.rdf_reading.specs.Room.{is_full_iri, is_full_literal, iri_term, literal_term, iri_names, literal_names, has_room}
use Rattle.ntriples_laws.specs.Canonical.{terms_of}
use Rattle.ntriples_laws.proofs.Numbering.{Grows, joins_grows, joins_length, joins_within, joins_known, joins_get, position_le}
use Rattle.ntriples_laws.proofs.Labels.{label, first_labels, label_is, labels_grow, bytes_same}

pub record GrowsTo (a b : NameLists) : Type 0 where
  pub iris : Grows a.iris b.iris
  pub literals : Grows a.literals b.literals

pub grows_on : (a b c : NameLists) → GrowsTo a b → GrowsTo b c → GrowsTo a c
grows_on a b c g h = record { iris = λ n v e. h.iris n v (g.iris n v e); literals = λ n v e. h.literals n v (g.literals n v e) }

-- the term is among the names or labels
abbrev pub InStore : Store → Term → Type 0
InStore st (term.Iri n) = n < length st.names.iris
InStore st (term.Blank n) = n < length st.labels
InStore st (term.Lit n) = n < length st.names.literals

pub record Larger (a b : Store) : Type 0 where
  pub iris : length a.names.iris ≤ length b.names.iris
  pub literals : length a.names.literals ≤ length b.names.literals
  pub labels : length a.labels ≤ length b.labels

pub larger_on : (a b c : Store) → Larger a b → Larger b c → Larger a c
larger_on a b c g h = record { iris = omega (arith, g.iris, h.iris); literals = omega (arith, g.literals, h.literals); labels = omega (arith, g.labels, h.labels) }

pub in_larger : (a b : Store) → Larger a b → (t : Term) → InStore a t → InStore b t
in_larger a b g (term.Iri n) h = omega (arith, g.iris, h)
in_larger a b g (term.Blank n) h = omega (arith, g.labels, h)
in_larger a b g (term.Lit n) h = omega (arith, g.literals, h)

-- what a term of a line does to a store
pub record Stepped (st next : Store) (t : Term) : Type 0 where
  pub grows : GrowsTo st.names next.names
  pub larger : Larger st next
  pub triples : next.triples ≡ st.triples
  pub within : InStore next t
  pub few : length next.labels ≤ length st.labels + 1
  pub known : InStore st t → (next.names ≡ st.names) × (next.labels ≡ st.labels)

pub same : {X : Type 0} (xs : List X) → Grows xs xs
same xs n v e = e

pub literal_same : (a b : Literal) → same_literal a b ≡ true → a ≡ b
literal_same a b h =
    let two = and_parts (bytes_eq a.lexical b.lexical) _ h in
    let rest = and_parts (bytes_eq a.datatype b.datatype) (bytes_eq a.tag b.tag) two.1 in
    ap (λ x. record { lexical = x; datatype = a.datatype; tag = a.tag }) (bytes_same a.lexical b.lexical two.0)
    ∙ ap (λ x. record { lexical = b.lexical; datatype = x; tag = a.tag }) (bytes_same a.datatype b.datatype rest.0)
    ∙ ap (λ x. record { lexical = b.lexical; datatype = b.datatype; tag = x }) (bytes_same a.tag b.tag rest.1)

pub some_same : {X : Type 0} (a b : X) → Some a ≡ Some b → a ≡ b
some_same a b e = cc

pub not_there : {X : Type 0} (x : X) → None ≡ Some x → ⊥
not_there x e = cc

pub iri_there : (names : NameLists) (text : List ℕ) (t : Term) → iri_term names text ≡ Some t → (iri_names names text ≡ with_iri names text) × (t ≡ term.Iri (iri_number names text))
iri_there names text t h = by (is_full_iri names text) h
  where
    by : (b : Bool) → cond b None (Some (term.Iri (iri_number names text))) ≡ Some t → (cond b names (with_iri names text) ≡ with_iri names text) × (t ≡ term.Iri (iri_number names text))
    by true h = absurd (not_there t h)
    by false h = (refl, sym (some_same (term.Iri (iri_number names text)) t h))

pub literal_there : (names : NameLists) (v : Literal) (t : Term) → literal_term names v ≡ Some t → (literal_names names v ≡ with_literal names v) × (t ≡ term.Lit (literal_number names v))
literal_there names v t h = by (is_full_literal names v) h
  where
    by : (b : Bool) → cond b None (Some (term.Lit (literal_number names v))) ≡ Some t → (cond b names (with_literal names v) ≡ with_literal names v) × (t ≡ term.Lit (literal_number names v))
    by true h = absurd (not_there t h)
    by false h = (refl, sym (some_same (term.Lit (literal_number names v)) t h))

pub stepped : (st : Store) (so : Sort) (text : List ℕ) (l : LineState) (t : Term) → node_term st so text l ≡ Some t → Stepped st (node_store st so text l) t
stepped st sort.Iri text l t h =
    let there = iri_there st.names text t h in
    let new = joins_length (bytes_eq text) st.names.iris text in
    subst (λ x. Stepped st (record st { names = x }) t) (sym there.0) (subst (λ u. Stepped st (record st { names = with_iri st.names text }) u) (sym there.1) (record {
      grows = record { iris = joins_grows (bytes_eq text) st.names.iris text; literals = same st.names.literals };
      larger = record { iris = new.0; literals = omega arith; labels = omega arith };
      triples = refl;
      within = joins_within (bytes_eq text) st.names.iris text;
      few = omega arith;
      known = λ k. (ap (λ x. record st.names { iris = x }) (joins_known (bytes_eq text) st.names.iris text k), refl);
    }))
stepped st sort.Blank text l t h =
    let new = joins_length (bytes_eq text) st.labels text in
    subst (λ u. Stepped st (record st { labels = with_label st.labels text }) u) (some_same (term.Blank (label_number st.labels text)) t h) (record {
      grows = record { iris = same st.names.iris; literals = same st.names.literals };
      larger = record { iris = omega arith; literals = omega arith; labels = new.0 };
      triples = refl;
      within = joins_within (bytes_eq text) st.labels text;
      few = new.1;
      known = λ k. (refl, joins_known (bytes_eq text) st.labels text k);
    })
stepped st sort.Literal text l t h =
    let v : Literal = literal_of text l in
    let there = literal_there st.names v t h in
    let new = joins_length (same_literal v) st.names.literals v in
    subst (λ x. Stepped st (record st { names = x }) t) (sym there.0) (subst (λ u. Stepped st (record st { names = with_literal st.names v }) u) (sym there.1) (record {
      grows = record { iris = same st.names.iris; literals = joins_grows (same_literal v) st.names.literals v };
      larger = record { iris = omega arith; literals = new.0; labels = omega arith };
      triples = refl;
      within = joins_within (same_literal v) st.names.literals v;
      few = omega arith;
      known = λ k. (ap (λ x. record st.names { literals = x }) (joins_known (same_literal v) st.names.literals v k), refl);
    }))

-- a term by its sort and text, as the names have it
abbrev pub ShowsNode : NameLists → Term → Sort → List ℕ → LineState → Type 0
ShowsNode names (term.Iri n) so text l = (so ≡ sort.Iri) × (slice_get names.iris n ≡ Some text)
ShowsNode names (term.Blank n) so text l = (so ≡ sort.Blank) × (text ≡ label n)
ShowsNode names (term.Lit n) so text l = (so ≡ sort.Literal) × (slice_get names.literals n ≡ Some (literal_of text l))

-- a store that was read again
pub record Again (again st : Store) : Type 0 where
  pub names : again.names ≡ st.names
  pub labels : again.labels ≡ first_labels (length st.labels)
  pub triples : map terms_of again.triples ≡ map terms_of st.triples

pub again_node : (again st : Store) (names : NameLists) (so to : Sort) (text other : List ℕ) (l m : LineState) (t : Term) → Again again st → length st.labels < 2 ^ 64
    → node_term st so text l ≡ Some t → GrowsTo (node_store st so text l).names names → ShowsNode names t to other m
    → (node_term again to other m ≡ Some t) × Again (node_store again to other m) (node_store st so text l)
again_node again st names sort.Iri to text other l m t a small h grows shows =
    let there = iri_there st.names text t h in
    let shown : ShowsNode names (term.Iri (iri_number st.names text)) to other m = subst (λ u. ShowsNode names u to other m) there.1 shows in
    let got : slice_get names.iris (iri_number st.names text) ≡ Some text =
    grows.iris (iri_number st.names text) text (ap (λ x. slice_get x.iris (iri_number st.names text)) there.0 ∙ joins_get bytes_eq bytes_same st.names.iris text) in
    let texts : other ≡ text = some_same other text (sym shown.1 ∙ got) in (
      ap (λ s. node_term again s other m) shown.0 ∙ ap₂ iri_term a.names texts ∙ h,
      subst (λ s. Again (node_store again s other m) (node_store st sort.Iri text l)) (sym shown.0) (record { names = ap₂ iri_names a.names texts; labels = a.labels; triples = a.triples }),
    )
again_node again st names sort.Blank to text other l m t a small h grows shows =
    let n : ℕ = label_number st.labels text in
    let shown : ShowsNode names (term.Blank n) to other m = subst (λ u. ShowsNode names u to other m) (sym (some_same (term.Blank n) t h)) shows in (
      ap (λ s. node_term again s other m) shown.0 ∙ ap₂ (λ x y. Some (term.Blank (label_number x y))) a.labels shown.1
          ∙ ap (λ k. Some (term.Blank k)) (label_is (length st.labels) n (position_le (bytes_eq text) st.labels) small) ∙ h,
      subst (λ s. Again (node_store again s other m) (node_store st sort.Blank text l)) (sym shown.0)
          (record { names = a.names; labels = ap₂ with_label a.labels shown.1 ∙ labels_grow st.labels text small; triples = a.triples }),
    )
again_node again st names sort.Literal to text other l m t a small h grows shows =
    let v : Literal = literal_of text l in
    let there = literal_there st.names v t h in
    let shown : ShowsNode names (term.Lit (literal_number st.names v)) to other m = subst (λ u. ShowsNode names u to other m) there.1 shows in
    let got : slice_get names.literals (literal_number st.names v) ≡ Some v =
    grows.literals (literal_number st.names v) v (ap (λ x. slice_get x.literals (literal_number st.names v)) there.0 ∙ joins_get same_literal literal_same st.names.literals v) in
    let texts : literal_of other m ≡ v = some_same (literal_of other m) v (sym shown.1 ∙ got) in (
      ap (λ s. node_term again s other m) shown.0 ∙ ap₂ literal_term a.names texts ∙ h,
      subst (λ s. Again (node_store again s other m) (node_store st sort.Literal text l)) (sym shown.0) (record { names = ap₂ literal_names a.names texts; labels = a.labels; triples = a.triples }),
    )

-- the stores behind the subject, the predicate and the object of a line
abbrev pub first_store : Store → LineState → Store
first_store st l = node_store st l.subject_sort l.subject l

abbrev pub second_store : Store → LineState → Store
second_store st l = record (first_store st l) { names = iri_names (first_store st l).names l.predicate }

abbrev pub third_store : Store → LineState → Store
third_store st l = node_store (second_store st l) l.object_sort l.object l

pub record Taken (st : Store) (l : LineState) (next : Store) : Type 0 where
  pub s : Term
  pub p : Term
  pub o : Term
  pub first : node_term st l.subject_sort l.subject l ≡ Some s
  pub second : node_term (first_store st l) sort.Iri l.predicate l ≡ Some p
  pub third : node_term (second_store st l) l.object_sort l.object l ≡ Some o
  pub room : has_room (third_store st l).triples (record { s = s; p = p; o = o; at = l.at }) ≡ true
  pub is : next ≡ record (third_store st l) { triples = with_triple (third_store st l).triples (record { s = s; p = p; o = o; at = l.at }) }

pub limited_not : (c : Code) (a b : Store) → ◌≡◌ {A = Option Code × Store} (Some c, a) (None, b) → ⊥
limited_not c a b e = true≢false (ap (λ p. is_some p.0) e)

pub by_term_some : (o : Option Term) (c : Code) (st next : Store) (f : Term → Option Code × Store) → by_term o (Some c, st) f ≡ (None, next) → (t : Term) × (o ≡ Some t) × (f t ≡ (None, next))
by_term_some None c st next f e = absurd (limited_not c st next e)
by_term_some (Some t) c st next f e = (t, refl, e)

pub room_some : (st next : Store) (t : Triple) → with_room st t ≡ (None, next) → (has_room st.triples t ≡ true) × (next ≡ record st { triples = with_triple st.triples t })
room_some st next t e = by (has_room st.triples t) e
  where
    by : (b : Bool) → ◌≡◌ {A = Option Code × Store} (cond b (None, record st { triples = with_triple st.triples t }) (Some L4, st)) (None, next) → (b ≡ true) × (next ≡ record st { triples = with_triple st.triples t })
    by true e = (refl, sym (ap (λ p. p.1) e))
    by false e = absurd (limited_not L4 st next e)

pub taken : (st : Store) (l : LineState) (next : Store) → with_line st l ≡ (None, next) → Taken st l next
taken st l next e =
    let a = by_term_some (node_term st l.subject_sort l.subject l) L5 (first_store st l) next (λ s. with_predicate (first_store st l) l s) e in
    let b = by_term_some (iri_term (first_store st l).names l.predicate) L5 (second_store st l) next (λ p. with_object (second_store st l) l a.0 p) a.2 in
    let c = by_term_some (node_term (second_store st l) l.object_sort l.object l) L5 (third_store st l) next (λ o. with_room (third_store st l) (record { s = a.0; p = b.0; o = o; at = l.at })) b.2 in
    let d = room_some (third_store st l) next (record { s = a.0; p = b.0; o = c.0; at = l.at }) c.2 in
    record { s = a.0; p = b.0; o = c.0; first = a.1; second = b.1; third = c.1; room = d.0; is = d.1 }

pub takes : (st : Store) (l : LineState) (s p o : Term) → node_term st l.subject_sort l.subject l ≡ Some s → node_term (first_store st l) sort.Iri l.predicate l ≡ Some p
    → node_term (second_store st l) l.object_sort l.object l ≡ Some o → has_room (third_store st l).triples (record { s = s; p = p; o = o; at = l.at }) ≡ true
    → with_line st l ≡ (None, record (third_store st l) { triples = with_triple (third_store st l).triples (record { s = s; p = p; o = o; at = l.at }) })
takes st l s p o a b c room =
    ap (λ x. by_term x (Some L5, first_store st l) (λ s. with_predicate (first_store st l) l s)) a
    ∙ ap (λ x. by_term x (Some L5, second_store st l) (λ p. with_object (second_store st l) l s p)) b
    ∙ ap (λ x. by_term x (Some L5, third_store st l) (λ o. with_room (third_store st l) (record { s = s; p = p; o = o; at = l.at }))) c
    ∙ cond-true (has_room (third_store st l).triples (record { s = s; p = p; o = o; at = l.at })) _ _ room
