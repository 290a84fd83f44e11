-- What records hold that are made of triples of values: those and no others.
use Rattle.std.proofs.Common.{◌≡◌, ◌⊎◌, inl, inr, Bool, true, false, true≢false, List, [], ◌∷◌, ◌++◌, append_assoc, append-nil, refl, sym, ap, subst, ◌∙◌}
use Rattle.std.specs.List.{IsDistinct}
use Rattle.rdf_terms.specs.declared.terms.Triple.{Triple}
use Rattle.rdf_terms.specs.declared.triples.Records.{Records}
use Rattle.rdf_terms.specs.Naming.{NameLists, AreDistinct}
use Rattle.rdf_terms.specs.Terms.{same_terms, is_held, with_triple, triple_of}
use Rattle.rdf_terms.proofs.TermLemmas.{same_terms-true}
use Rattle.joined_names.specs.Values.{Value, ValueTriple, names_with_three, terms_of, with_values, with_all}
use Rattle.joined_names.specs.Values.Value.{Iri, Blank, Lit}
use Rattle.archive_join.specs.Joining.{nothing}
use Rattle.joined_names.proofs.Renumbering.{stays, comes}
use Rattle.record_laws.proofs.Members.{In, same_terms-refl, same_terms-from}
use Rattle.record_laws.proofs.Walking.{in_left, in_right, in_either}
use Rattle.join_laws.proofs.Numbering.{any_new, distinct_new}
use Rattle.join_laws.proofs.Naming.{is_named, is_blank, Mentions, AreNamed, triple_in, three_named, three_terms, three_kept, three_stay, three_only, three_distinct}

pub record Holds (r : Records) (xs : List ValueTriple) : Type 0 where
  pub names : AreDistinct r.names
  pub triples : IsDistinct same_terms r.triples
  pub named : (x : ValueTriple) → In x xs → AreNamed r.names x
  -- a name is that of a value
  pub meant : (v : Value) → is_named r.names v ≡ true → (is_blank v ≡ true) ⊎ ((x : ValueTriple) × In x xs × Mentions x v)
  pub said : (t : Triple) → is_held r.triples t ≡ true → (x : ValueTriple) × In x xs × (same_terms t (triple_in r.names x) ≡ true)
  pub held : (x : ValueTriple) → In x xs → is_held r.triples (triple_in r.names x) ≡ true

turned_terms : (t u : Triple) → same_terms u t ≡ false → same_terms t u ≡ false
turned_terms t u h = by (same_terms t u) refl
  where
    by : (b : Bool) → same_terms t u ≡ b → b ≡ false
    by true is =
        let e = same_terms-true t u is in
        absurd (true≢false (sym (same_terms-from u t (sym e.0) (sym e.1) (sym e.2)) ∙ h))
    by false is = refl

module _ (r : Records) (xs : List ValueTriple) (x : ValueTriple) (h : Holds r xs) where
  abbrev names : NameLists
  names = names_with_three r.names x

  abbrev put : Triple
  put = triple_of (terms_of r.names x, x.at)

  abbrev one : List ValueTriple
  one = x ∷ []

  named_more : (y : ValueTriple) → In y xs ⊎ In y one → AreNamed names y
  named_more y (inl i) = three_kept r.names x y (h.named y i)
  named_more y (inr (inl e)) = subst (AreNamed names) (sym e) (three_named r.names x)
  named_more y (inr (inr never)) = absurd never

  meant_more : (v : Value) → (is_named r.names v ≡ true) ⊎ Mentions x v → (is_blank v ≡ true) ⊎ ((y : ValueTriple) × In y (xs ++ one) × Mentions y v)
  meant_more v (inl before) = elim (h.meant v before) [ inl blank ↦ inl blank | inr m ↦ inr (m.0, in_left xs one m.0 m.1, m.2) ]
  meant_more v (inr m) = inr (x, in_right xs one x (inl refl), m)

  said_more : (t : Triple) → (is_held r.triples t ≡ true) ⊎ (same_terms t put ≡ true) → (y : ValueTriple) × In y (xs ++ one) × (same_terms t (triple_in names y) ≡ true)
  said_more t (inl before) =
      let s = h.said t before in
      (s.0, in_left xs one s.0 s.1, ap (same_terms t) (three_stay r.names x s.0 (h.named s.0 s.1)) ∙ s.2)
  said_more t (inr e) = (x, in_right xs one x (inl refl), ap (same_terms t) (sym (three_terms r.names x)) ∙ e)

  held_more : (y : ValueTriple) → In y xs ⊎ In y one → is_held (with_triple r.triples put) (triple_in names y) ≡ true
  held_more y (inl i) =
      ap (is_held (with_triple r.triples put)) (three_stay r.names x y (h.named y i))
      ∙ (stays (is_held r.triples put) (same_terms (triple_in r.names y)) r.triples put (h.held y i)).0
  held_more y (inr (inl e)) =
      ap (λ (z : ValueTriple). is_held (with_triple r.triples put) (triple_in names z)) e
      ∙ ap (is_held (with_triple r.triples put)) (sym (three_terms r.names x))
      ∙ (comes (is_held r.triples put) (same_terms put) r.triples put (same_terms-refl put) refl).0
  held_more y (inr (inr never)) = absurd never

  -- with one more
  pub holds_more : Holds (with_values r x) (xs ++ x ∷ [])
  holds_more = record {
    names = three_distinct r.names x h.names;
    triples = distinct_new same_terms turned_terms r.triples put h.triples;
    named = λ y i. named_more y (in_either xs one y i);
    meant = λ v is. meant_more v (three_only r.names x v is);
    said = λ t is. said_more t (any_new (same_terms t) (is_held r.triples put) r.triples put is);
    held = λ y i. held_more y (in_either xs one y i);
  }

-- with several
pub holds_all : (xs : List ValueTriple) (r : Records) (done : List ValueTriple) → Holds r done → Holds (with_all r xs) (done ++ xs)
unfolding with_all
holds_all [] r done h = subst (Holds r) (sym (append-nil done)) h
holds_all (x ∷ xs) r done h = subst (Holds (with_all (with_values r x) xs)) (append_assoc done (x ∷ []) xs) (holds_all xs (with_values r x) (done ++ x ∷ []) (holds_more r done x h))

no_names : (v : Value) → is_named nothing.records.names v ≡ true → is_blank v ≡ true
no_names (Iri text) h = absurd (true≢false (sym h))
no_names (Blank n) h = refl
no_names (Lit literal) h = absurd (true≢false (sym h))

pub holds_nothing : Holds nothing.records []
unfolding IsDistinct
holds_nothing = record {
  names = record { iris = tt; literals = tt };
  triples = tt;
  named = λ x i. absurd i;
  meant = λ v h. inl (no_names v h);
  said = λ t h. absurd (true≢false (sym h));
  held = λ x i. absurd i;
}
