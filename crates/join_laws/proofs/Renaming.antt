-- Records that hold triples of values which are the same but for blank nodes say the same.
use Rattle.std.proofs.Common.{◌≡◌, ℕ, inl, inr, true, false, true≢false, List, refl, sym, ap, ◌∙◌, arith}
use Rattle.std.specs.List.Sorted.{IsPermutation}
use Rattle.std.specs.Str.{bytes_eq}
use Rattle.rdf_terms.specs.declared.terms.Literal.{Literal}
use Rattle.rdf_terms.specs.declared.terms.Term.{Term}
use Rattle.rdf_terms.specs.declared.terms.Term.TheVariants as term
use Rattle.rdf_terms.specs.declared.terms.Triple.{Triple}
use Rattle.rdf_terms.specs.declared.triples.Records.{Records}
use Rattle.rdf_terms.specs.Naming.{NameLists, same_literal, has_iri, has_literal, name_count}
use Rattle.rdf_terms.specs.Fitting.{is_literal, iri_of, literal_of}
use Rattle.rdf_terms.specs.Terms.{is_held}
use Rattle.rdf_terms.proofs.TermLemmas.{same_terms-true}
use Rattle.crm_core.specs.Contents.{Contents}
use Rattle.joined_names.specs.Values.{Value, ValueTriple, term_of}
use Rattle.joined_names.specs.Values.Value.{Iri, Blank, Lit}
use Rattle.archive_join.specs.Archives.{joined}
use Rattle.record_laws.specs.Renaming.{renamed, Same}
use Rattle.join_laws.proofs.Numbering.{number_in, number_goes, number_leads, number_returns, as_long}
use Rattle.join_laws.proofs.Naming.{bytes_self, bytes_same, literal_self, literal_same, is_named, is_blank, Mentions, AreNamed, triple_in}
use Rattle.join_laws.proofs.Holding.{Holds}
use Rattle.join_laws.proofs.Alike.{renamed_value, IsMoved, AreMoved, AreAlike}
use Rattle.join_laws.proofs.Filing.{all_values, holds_joined, say_alike}

-- A name keeps its text and a blank node is renamed; a number that is no name's stays.
abbrev pub term_in : NameLists → NameLists → (ℕ → ℕ) → Term → Term
term_in names other f (term.Iri n) = term.Iri (number_in bytes_eq names.iris other.iris n)
term_in names other f (term.Blank n) = term.Blank (f n)
term_in names other f (term.Lit n) = term.Lit (number_in same_literal names.literals other.literals n)

pub is_held_by : (ts : List Triple) (t u : Triple) → t.s ≡ u.s → t.p ≡ u.p → t.o ≡ u.o → is_held ts t ≡ is_held ts u
is_held_by ts t u s p o =
    ap (λ (x : Term). is_held ts (record { s = x; p = t.p; o = t.o; at = 0 })) s
    ∙ ap (λ (x : Term). is_held ts (record { s = u.s; p = x; o = t.o; at = 0 })) p
    ∙ ap (λ (x : Term). is_held ts (record { s = u.s; p = u.p; o = x; at = 0 })) o

module _ (r q : Records) (xs ys : List ValueTriple) (f : ℕ → ℕ) (ours : Holds r xs) (theirs : Holds q ys) (there : AreMoved f xs ys) where
  mentioned : (x y : ValueTriple) (v : Value) → IsMoved f x y → AreNamed q.names y → Mentions x v → is_named q.names (renamed_value f v) ≡ true
  mentioned x y v moved named (inl e) = ap (λ (w : Value). is_named q.names w) (ap (renamed_value f) (sym e) ∙ sym moved.s) ∙ named.s
  mentioned x y v moved named (inr (inl e)) = ap (λ (w : Value). is_named q.names w) (ap (renamed_value f) (sym e) ∙ sym moved.p) ∙ named.p
  mentioned x y v moved named (inr (inr e)) = ap (λ (w : Value). is_named q.names w) (ap (renamed_value f) (sym e) ∙ sym moved.o) ∙ named.o

  -- a name of the one is a name of the other
  name_goes : (v : Value) → is_blank v ≡ false → is_named r.names v ≡ true → is_named q.names (renamed_value f v) ≡ true
  name_goes v text h = elim (ours.meant v h) [
    | inl blank ↦ absurd (true≢false (sym blank ∙ text))
    | inr m ↦ (let y = there m.0 m.1 in mentioned m.0 y.0 v y.2 (theirs.named y.0 y.1) m.2)
  ]

  pub iri_goes : (text : List ℕ) → has_iri r.names text ≡ true → has_iri q.names text ≡ true
  iri_goes text h = name_goes (Value.Iri text) refl h

  pub literal_goes : (v : Literal) → has_literal r.names v ≡ true → has_literal q.names v ≡ true
  literal_goes v h = name_goes (Value.Lit v) refl h

  term_goes : (v : Value) → is_named r.names v ≡ true → term_in r.names q.names f (term_of r.names v) ≡ term_of q.names (renamed_value f v)
  term_goes (Iri text) h = ap (λ (n : ℕ). term.Iri n) (number_goes bytes_eq bytes_self bytes_same r.names.iris q.names.iris text h)
  term_goes (Blank n) h = refl
  term_goes (Lit v) h = ap (λ (n : ℕ). term.Lit n) (number_goes same_literal literal_self literal_same r.names.literals q.names.literals v h)

  -- a triple of the one is, renamed, one of the other
  pub triple_goes : (t : Triple) → is_held r.triples t ≡ true → is_held q.triples (renamed (term_in r.names q.names f) t) ≡ true
  triple_goes t h =
      let x = ours.said t h in
      let y = there x.0 x.1 in
      let named = ours.named x.0 x.1 in
      let same = same_terms-true t (triple_in r.names x.0) x.2 in
      let m : Term → Term = term_in r.names q.names f in
      is_held_by q.triples (renamed m t) (triple_in q.names y.0)
      (ap m same.0 ∙ term_goes x.0.s named.s ∙ ap (term_of q.names) (sym y.2.s))
      (ap m same.1 ∙ term_goes x.0.p named.p ∙ ap (term_of q.names) (sym y.2.p))
      (ap m same.2 ∙ term_goes x.0.o named.o ∙ ap (term_of q.names) (sym y.2.o))
      ∙ theirs.held y.0 y.1

module _ (r q : Records) (xs ys : List ValueTriple) (ours : Holds r xs) (theirs : Holds q ys) (alike : AreAlike 0 xs ys) where
  abbrev m : Term → Term
  m = term_in r.names q.names alike.forth

  abbrev back : Term → Term
  back = term_in q.names r.names alike.back

  iri_there : (text : List ℕ) → has_iri r.names text ≡ true → has_iri q.names text ≡ true
  iri_there = iri_goes r q xs ys alike.forth ours theirs alike.there

  iri_here : (text : List ℕ) → has_iri q.names text ≡ true → has_iri r.names text ≡ true
  iri_here = iri_goes q r ys xs alike.back theirs ours alike.here

  literal_there : (v : Literal) → has_literal r.names v ≡ true → has_literal q.names v ≡ true
  literal_there = literal_goes r q xs ys alike.forth ours theirs alike.there

  literal_here : (v : Literal) → has_literal q.names v ≡ true → has_literal r.names v ≡ true
  literal_here = literal_goes q r ys xs alike.back theirs ours alike.here

  iris_lead : (t : Term) → iri_of q.names (m t) ≡ iri_of r.names t
  iris_lead (term.Iri n) = number_leads bytes_eq bytes_self bytes_same r.names.iris q.names.iris ours.names.iris theirs.names.iris iri_there iri_here n
  iris_lead (term.Blank n) = refl
  iris_lead (term.Lit n) = refl

  literals_lead : (t : Term) → literal_of q.names (m t) ≡ literal_of r.names t
  literals_lead (term.Iri n) = refl
  literals_lead (term.Blank n) = refl
  literals_lead (term.Lit n) =
      number_leads same_literal literal_self literal_same r.names.literals q.names.literals ours.names.literals theirs.names.literals literal_there literal_here n

  sorts : (t : Term) → is_literal (m t) ≡ is_literal t
  sorts (term.Iri n) = refl
  sorts (term.Blank n) = refl
  sorts (term.Lit n) = refl

  forth_and_back : (t : Term) → back (m t) ≡ t
  forth_and_back (term.Iri n) =
      ap (λ (k : ℕ). term.Iri k) (number_returns bytes_eq bytes_self bytes_same r.names.iris q.names.iris ours.names.iris theirs.names.iris iri_there iri_here n)
  forth_and_back (term.Blank n) = ap (λ (k : ℕ). term.Blank k) (alike.forth_and_back n)
  forth_and_back (term.Lit n) =
      ap (λ (k : ℕ). term.Lit k) (number_returns same_literal literal_self literal_same r.names.literals q.names.literals ours.names.literals theirs.names.literals literal_there literal_here n)

  back_and_forth : (t : Term) → m (back t) ≡ t
  back_and_forth (term.Iri n) =
      ap (λ (k : ℕ). term.Iri k) (number_returns bytes_eq bytes_self bytes_same q.names.iris r.names.iris theirs.names.iris ours.names.iris iri_here iri_there n)
  back_and_forth (term.Blank n) = ap (λ (k : ℕ). term.Blank k) (alike.back_and_forth n)
  back_and_forth (term.Lit n) =
      ap (λ (k : ℕ). term.Lit k) (number_returns same_literal literal_self literal_same q.names.literals r.names.literals theirs.names.literals ours.names.literals literal_here literal_there n)

  pub as_many : name_count r.names ≡ name_count q.names
  as_many =
      omega (
        arith,
        as_long bytes_eq bytes_self bytes_same r.names.iris q.names.iris ours.names.iris theirs.names.iris iri_there iri_here,
        as_long same_literal literal_self literal_same r.names.literals q.names.literals ours.names.literals theirs.names.literals literal_there literal_here,
      )

  pub same_records : Same r q m back
  same_records = record {
    renaming = record { iris = iris_lead; literals = literals_lead; sorts = sorts; forth_and_back = forth_and_back; back_and_forth = back_and_forth };
    distinct = ours.triples;
    others_distinct = theirs.triples;
    there = triple_goes r q xs ys alike.forth ours theirs alike.there;
    here = triple_goes q r ys xs alike.back theirs ours alike.here;
  }

-- files in another order
pub same_joined : (files others : List Contents) → IsPermutation files others → (m : Term → Term) × (back : Term → Term) × Same (joined files).records (joined others).records m back
same_joined files others p =
    let alike = say_alike files others p 0 0 in (
      term_in (joined files).records.names (joined others).records.names alike.forth,
      term_in (joined others).records.names (joined files).records.names alike.back,
      same_records (joined files).records (joined others).records (all_values 0 0 files) (all_values 0 0 others) (holds_joined files) (holds_joined others) alike,
    )

pub as_many_names : (files others : List Contents) → IsPermutation files others → name_count (joined files).records.names ≡ name_count (joined others).records.names
as_many_names files others p =
    as_many (joined files).records (joined others).records (all_values 0 0 files) (all_values 0 0 others) (holds_joined files) (holds_joined others) (say_alike files others p 0 0)
