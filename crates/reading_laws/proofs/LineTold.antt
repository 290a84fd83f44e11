-- What the lines of N-Triples hold is what they tell, up to the first limit.
use Rattle.std.proofs.Common.{ℕ, List, [], ◌∷◌, ◌++◌, ◌≡◌, ◌<◌, ◌≤◌, ◌⊎◌, Bool, true, false, length, is_some, bytes_eq, refl, ap, ap₂, sym, ◌∙◌, subst, arith, inl, inr, length-append}
use Rattle.std.proofs.lemmas.Bool.{cond-true, cond-false}
use Rattle.std.specs.Prelude.{Option, None, Some}
use Rattle.rdf_terms.specs.declared.terms.Code.{Code}
use Rattle.rdf_terms.specs.declared.terms.Code.TheVariants.{L4, L5}
use Rattle.rdf_terms.specs.declared.terms.Literal.{Literal}
use Rattle.rdf_terms.specs.declared.terms.Term.{Term}
use Rattle.rdf_terms.specs.declared.terms.Triple.{Triple}
use Rattle.rdf_terms.specs.Naming.{NameLists, same_literal, name_count, has_iri, with_iri, has_literal, with_literal}
use Rattle.rdf_terms.specs.Terms.{with_triple}
use Rattle.ntriples_reader.specs.declared.line.Sort.{Sort}
use Rattle.ntriples_reader.specs.declared.line.Sort.TheVariants as sort
use Rattle.ntriples_reader.specs.declared.store.Store.{Store}
use Rattle.ntriples_reader.specs.declared.store.Held.{Held}
use Rattle.ntriples_reader.specs.Lines.{LineState}
use Rattle.ntriples_reader.specs.Storing.{label_number, with_label, literal_of, node_term, node_store, with_room, by_term, with_line, limited, held_by, held_after}
use Rattle.rdf_reading.specs.Room.{is_full_iri, is_full_literal, iri_term, literal_term, iri_names, literal_names, has_room}
use Rattle.ntriples_reader.specs.Storing as storing
use Rattle.reading_laws.specs.Telling.{Thing, Statement}
use Rattle.reading_laws.specs.Telling.Thing.{Iri, Lit}
use Rattle.reading_laws.specs.Counting.{naming, number, names_with, records, IsSmall, Passes, IsLimit}
use Rattle.reading_laws.specs.Lines.{thing, labels_by, line_labels, statement}
use Rattle.reading_laws.proofs.Graphs.{most_join, few_join}
use Rattle.reading_laws.proofs.Told.{good_on, good_new, naming_count, over_join}
use Rattle.reading_laws.proofs.Tells.{records_push, limit_on, room_length, no_room_length}

-- a term of a line: there is no room for its name, or it is named
abbrev NodeCase : Store → Sort → List ℕ → LineState → Thing → Type 0
NodeCase st so text l x = ((node_term st so text l ≡ None) × (262144 < name_count (naming st.names x)))
    ⊎ ((node_term st so text l ≡ Some (number st.names x)) × (node_store st so text l ≡ record st { names = naming st.names x; labels = labels_by st.labels so text }) × (name_count (naming st.names x) ≤ 262144))

iri_case : (st : Store) (text : List ℕ) (l : LineState) → name_count st.names ≤ 262144 → NodeCase st sort.Iri text l (Iri text)
iri_case st text l few = by (is_full_iri st.names text) refl
  where
    by : (b : Bool) → is_full_iri st.names text ≡ b → NodeCase st sort.Iri text l (Iri text)
    by true e = inl (
      cond-true (is_full_iri st.names text) None _ e,
      omega (
        arith,
        over_join (has_iri st.names text) (length st.names.iris) (length (with_iri st.names text).iris) (name_count st.names) e
            (λ f. ap length (cond-false (has_iri st.names text) st.names.iris (st.names.iris ++ text ∷ []) f) ∙ length-append st.names.iris (text ∷ [])),
      ),
    )
    by false e = inr (
      cond-false (is_full_iri st.names text) None _ e,
      ap (λ n. record st { names = n }) (cond-false (is_full_iri st.names text) st.names _ e),
      omega (
        arith,
        few_join (has_iri st.names text) (length st.names.iris) (length (with_iri st.names text).iris) (name_count st.names) e few
            (most_join (bytes_eq text) st.names.iris text).0 (most_join (bytes_eq text) st.names.iris text).1,
      ),
    )

literal_case : (st : Store) (text : List ℕ) (l : LineState) → name_count st.names ≤ 262144 → NodeCase st sort.Literal text l (Lit (literal_of text l))
literal_case st text l few = by (is_full_literal st.names (literal_of text l)) refl
  where
    v : Literal
    v = literal_of text l

    by : (b : Bool) → is_full_literal st.names (literal_of text l) ≡ b → NodeCase st sort.Literal text l (Lit (literal_of text l))
    by true e = inl (
      cond-true (is_full_literal st.names v) None _ e,
      omega (
        arith,
        over_join (has_literal st.names v) (length st.names.literals) (length (with_literal st.names v).literals) (name_count st.names) e
            (λ f. ap length (cond-false (has_literal st.names v) st.names.literals (st.names.literals ++ v ∷ []) f) ∙ length-append st.names.literals (v ∷ [])),
      ),
    )
    by false e = inr (
      cond-false (is_full_literal st.names v) None _ e,
      ap (λ n. record st { names = n }) (cond-false (is_full_literal st.names v) st.names _ e),
      omega (
        arith,
        few_join (has_literal st.names v) (length st.names.literals) (length (with_literal st.names v).literals) (name_count st.names) e few
            (most_join (same_literal v) st.names.literals v).0 (most_join (same_literal v) st.names.literals v).1,
      ),
    )

node_case : (st : Store) (so : Sort) (text : List ℕ) (l : LineState) → name_count st.names ≤ 262144 → NodeCase st so text l (thing st.labels so text l)
node_case st sort.Iri text l few = iri_case st text l few
node_case st sort.Blank text l few = inr (refl, refl, few)
node_case st sort.Literal text l few = literal_case st text l few

-- a store that holds statements, with these labels
pub record LineFair (st : Store) (xs : List Statement) (labels : List (List ℕ)) : Type 0 where
  pub names : st.names ≡ (records xs).names
  pub triples : st.triples ≡ (records xs).triples
  pub labels_are : st.labels ≡ labels
  pub small : IsSmall (records xs)

abbrev pub HeldTold : Held → List Statement → List (List ℕ) → Type 0
HeldTold h xs labels = ((h.limit ≡ None) × LineFair h.store xs labels) ⊎ ((code : Code) × (at : ℕ) × (h.limit ≡ Some (record { code = code; at = at })) × IsLimit xs code at)

-- a line with its statement
abbrev LineCase : Store → LineState → List Statement → List (List ℕ) → Type 0
LineCase st l xs labels = ((with_line st l).0 ≡ None × LineFair (with_line st l).1 (xs ++ statement labels l ∷ []) (line_labels labels l))
    ⊎ ((code : Code) × ((with_line st l).0 ≡ Some code) × Passes (records (xs ++ statement labels l ∷ [])) code)

over_all : (xs : List Statement) (w : Statement) → 262144 < name_count (names_with (records xs).names w) → Passes (records (xs ++ w ∷ [])) L5
over_all xs w h = inl (refl, subst (λ r. 262144 < name_count r.names) (sym (records_push xs w)) h)

abbrev subject_of : Store → LineState → Thing
subject_of st l = thing st.labels l.subject_sort l.subject l

abbrev object_of : Store → LineState → Thing
object_of st l = thing st.labels l.object_sort l.object l

abbrev named : Store → Thing → List (List ℕ) → Store
named st x labels = record st { names = naming st.names x; labels = labels }

object_case : (st : Store) (l : LineState) (s p : Term) → name_count st.names ≤ 262144
    → (((storing.with_object st l s p).0 ≡ Some L5) × (262144 < name_count (naming st.names (object_of st l))))
    ⊎ ((storing.with_object st l s p ≡ with_room (named st (object_of st l) (labels_by st.labels l.object_sort l.object)) (record { s = s; p = p; o = number st.names (object_of st l); at = l.at }))
    × (name_count (naming st.names (object_of st l)) ≤ 262144))
object_case st l s p few = by (node_case st l.object_sort l.object l few)
  where
    next : Term → Option Code × Store
    next o = with_room (node_store st l.object_sort l.object l) (record { s = s; p = p; o = o; at = l.at })

    by : NodeCase st l.object_sort l.object l (object_of st l)
        → (((storing.with_object st l s p).0 ≡ Some L5) × (262144 < name_count (naming st.names (object_of st l))))
        ⊎ ((storing.with_object st l s p ≡ with_room (named st (object_of st l) (labels_by st.labels l.object_sort l.object)) (record { s = s; p = p; o = number st.names (object_of st l); at = l.at }))
        × (name_count (naming st.names (object_of st l)) ≤ 262144))
    by (inl (e, o)) = inl (ap (λ x. (by_term x (Some L5, node_store st l.object_sort l.object l) (λ o. with_room (node_store st l.object_sort l.object l) (record { s = s; p = p; o = o; at = l.at }))).0) e, o)
    by (inr (e, t, k)) = inr (
      ap (λ x. by_term x (Some L5, node_store st l.object_sort l.object l) (λ o. with_room (node_store st l.object_sort l.object l) (record { s = s; p = p; o = o; at = l.at }))) e
          ∙ ap (λ y. with_room y (record { s = s; p = p; o = number st.names (object_of st l); at = l.at })) t,
      k,
    )

verb_case : (st : Store) (l : LineState) (s : Term) → name_count st.names ≤ 262144
    → (((storing.with_predicate st l s).0 ≡ Some L5) × (262144 < name_count (naming st.names (Iri l.predicate))))
    ⊎ ((storing.with_predicate st l s ≡ storing.with_object (named st (Iri l.predicate) st.labels) l s (number st.names (Iri l.predicate))) × (name_count (naming st.names (Iri l.predicate)) ≤ 262144))
verb_case st l s few = by (iri_case st l.predicate l few)
  where
    by : NodeCase st sort.Iri l.predicate l (Iri l.predicate)
        → (((storing.with_predicate st l s).0 ≡ Some L5) × (262144 < name_count (naming st.names (Iri l.predicate))))
        ⊎ ((storing.with_predicate st l s ≡ storing.with_object (named st (Iri l.predicate) st.labels) l s (number st.names (Iri l.predicate))) × (name_count (naming st.names (Iri l.predicate)) ≤ 262144))
    by (inl (e, o)) = inl (ap (λ x. (by_term x (Some L5, record st { names = iri_names st.names l.predicate }) (λ p. storing.with_object (record st { names = iri_names st.names l.predicate }) l s p)).0) e, o)
    by (inr (e, t, k)) = inr (
      ap (λ x. by_term x (Some L5, record st { names = iri_names st.names l.predicate }) (λ p. storing.with_object (record st { names = iri_names st.names l.predicate }) l s p)) e
          ∙ ap (λ y. storing.with_object y l s (number st.names (Iri l.predicate))) t,
      k,
    )

subject_case : (st : Store) (l : LineState) → name_count st.names ≤ 262144
    → (((with_line st l).0 ≡ Some L5) × (262144 < name_count (naming st.names (subject_of st l))))
    ⊎ ((with_line st l ≡ storing.with_predicate (named st (subject_of st l) (labels_by st.labels l.subject_sort l.subject)) l (number st.names (subject_of st l))) × (name_count (naming st.names (subject_of st l)) ≤ 262144))
subject_case st l few = by (node_case st l.subject_sort l.subject l few)
  where
    by : NodeCase st l.subject_sort l.subject l (subject_of st l)
        → (((with_line st l).0 ≡ Some L5) × (262144 < name_count (naming st.names (subject_of st l))))
        ⊎ ((with_line st l ≡ storing.with_predicate (named st (subject_of st l) (labels_by st.labels l.subject_sort l.subject)) l (number st.names (subject_of st l))) × (name_count (naming st.names (subject_of st l)) ≤ 262144))
    by (inl (e, o)) = inl (ap (λ x. (by_term x (Some L5, node_store st l.subject_sort l.subject l) (λ s. storing.with_predicate (node_store st l.subject_sort l.subject l) l s)).0) e, o)
    by (inr (e, t, k)) = inr (
      ap (λ x. by_term x (Some L5, node_store st l.subject_sort l.subject l) (λ s. storing.with_predicate (node_store st l.subject_sort l.subject l) l s)) e
          ∙ ap (λ y. storing.with_predicate y l (number st.names (subject_of st l))) t,
      k,
    )

-- the numbers of a statement stay as its names come
numbers : (n : NameLists) (s : Thing) (p : List ℕ) (o : Thing) (at : ℕ)
    → ◌≡◌ {A = Triple} (record { s = number n s; p = number (naming n s) (Iri p); o = number (naming (naming n s) (Iri p)) o; at = at })
    (record { s = number (naming (naming (naming n s) (Iri p)) o) s; p = number (naming (naming (naming n s) (Iri p)) o) (Iri p); o = number (naming (naming (naming n s) (Iri p)) o) o; at = at })
numbers n s p o at =
    let n1 : NameLists = naming n s in
    let n2 : NameLists = naming n1 (Iri p) in
    let n3 : NameLists = naming n2 o in
    let a = good_on n2 o (number n s, s) (good_on n1 (Iri p) (number n s, s) (good_new n s)) in
    let b = good_on n2 o (number n1 (Iri p), Iri p) (good_new n1 (Iri p)) in
    let c = good_new n2 o in
    ap (λ x. record { s = x; p = number n1 (Iri p); o = number n2 o; at = at }) a.0
    ∙ ap (λ x. record { s = number n3 s; p = x; o = number n2 o; at = at }) b.0
    ∙ ap (λ x. record { s = number n3 s; p = number n3 (Iri p); o = x; at = at }) c.0

room_case : (st : Store) (l : LineState) (xs : List Statement) → LineFair st xs st.labels → name_count (names_with st.names (statement st.labels l)) ≤ 262144
    → with_line st l ≡ with_room (record { names = names_with st.names (statement st.labels l); labels = line_labels st.labels l; triples = st.triples })
    (record { s = number st.names (subject_of st l); p = number (naming st.names (subject_of st l)) (Iri l.predicate); o = number (naming (naming st.names (subject_of st l)) (Iri l.predicate)) (statement st.labels l).o; at = l.at })
    → LineCase st l xs st.labels
room_case st l xs f few e = by (has_room st.triples t) refl
  where
    t : Triple
    t = record { s = number st.names (subject_of st l); p = number (naming st.names (subject_of st l)) (Iri l.predicate); o = number (naming (naming st.names (subject_of st l)) (Iri l.predicate)) (statement st.labels l).o; at = l.at }

    w : Statement
    w = statement st.labels l

    full : Store
    full = record { names = names_with st.names (statement st.labels l); labels = line_labels st.labels l; triples = st.triples }

    triples : with_triple st.triples t ≡ (records (xs ++ statement st.labels l ∷ [])).triples
    triples = ap (with_triple st.triples) (numbers st.names (subject_of st l) l.predicate (statement st.labels l).o l.at)
        ∙ ap₂ (λ ts n. with_triple ts (record { s = number (names_with n (statement st.labels l)) (subject_of st l); p = number (names_with n (statement st.labels l)) (Iri l.predicate); o = number (names_with n (statement st.labels l)) (statement st.labels l).o; at = l.at })) f.triples f.names
        ∙ ap (λ r. r.triples) (sym (records_push xs (statement st.labels l)))

    names : names_with st.names (statement st.labels l) ≡ (records (xs ++ statement st.labels l ∷ [])).names
    names = ap (λ n. names_with n (statement st.labels l)) f.names ∙ ap (λ r. r.names) (sym (records_push xs (statement st.labels l)))

    by : (b : Bool) → has_room st.triples t ≡ b → LineCase st l xs st.labels
    by true h =
        let line : with_line st l ≡ (None, record full { triples = with_triple st.triples t }) = e ∙ cond-true (has_room st.triples t) _ _ h in
        inl (
          ap (λ x. x.0) line,
          subst (λ x. LineFair x.1 (xs ++ w ∷ []) (line_labels st.labels l)) (sym line) (record {
            names = names;
            triples = triples;
            labels_are = refl;
            small = (subst (λ n. name_count n ≤ 262144) names few, subst (λ ts. length ts ≤ 262144) triples (room_length st.triples t h (subst (λ ts. length ts ≤ 262144) (sym f.triples) f.small.1)));
          }),
        )
    by false h = inr (
      L4,
      ap (λ x. x.0) (e ∙ cond-false (has_room st.triples t) _ _ h),
      inr (refl, subst (λ n. name_count n ≤ 262144) names few, subst (λ ts. 262144 < length ts) triples (no_room_length st.triples t h)),
    )

line_case : (st : Store) (l : LineState) (xs : List Statement) → LineFair st xs st.labels → LineCase st l xs st.labels
line_case st l xs f = first (subject_case st l few)
  where
    few : name_count st.names ≤ 262144
    few = subst (λ n. name_count n ≤ 262144) (sym f.names) f.small.0

    s : Thing
    s = subject_of st l

    n1 : NameLists
    n1 = naming st.names (subject_of st l)

    n2 : NameLists
    n2 = naming (naming st.names (subject_of st l)) (Iri l.predicate)

    st1 : Store
    st1 = named st (subject_of st l) (labels_by st.labels l.subject_sort l.subject)

    st2 : Store
    st2 = named (named st (subject_of st l) (labels_by st.labels l.subject_sort l.subject)) (Iri l.predicate) (labels_by st.labels l.subject_sort l.subject)

    over : (n : ℕ) → 262144 < n → n ≤ name_count (names_with st.names (statement st.labels l)) → Passes (records (xs ++ statement st.labels l ∷ [])) L5
    over n h k = over_all xs (statement st.labels l) (subst (λ m. 262144 < name_count (names_with m (statement st.labels l))) f.names (omega (arith, h, k)))

    third : with_line st l ≡ storing.with_object st2 l (number st.names s) (number n1 (Iri l.predicate))
        → (((storing.with_object st2 l (number st.names s) (number n1 (Iri l.predicate))).0 ≡ Some L5) × (262144 < name_count (naming st2.names (object_of st2 l))))
        ⊎ ((storing.with_object st2 l (number st.names s) (number n1 (Iri l.predicate)) ≡ with_room (named st2 (object_of st2 l) (labels_by st2.labels l.object_sort l.object)) (record { s = number st.names s; p = number n1 (Iri l.predicate); o = number st2.names (object_of st2 l); at = l.at }))
        × (name_count (naming st2.names (object_of st2 l)) ≤ 262144)) → LineCase st l xs st.labels
    third e (inl (g, o)) = inr (L5, ap (λ x. x.0) e ∙ g, over (name_count (naming st2.names (object_of st2 l))) o (omega arith))
    third e (inr (g, k)) = room_case st l xs f k (e ∙ g)

    second : with_line st l ≡ storing.with_predicate st1 l (number st.names s)
        → (((storing.with_predicate st1 l (number st.names s)).0 ≡ Some L5) × (262144 < name_count (naming st1.names (Iri l.predicate))))
        ⊎ ((storing.with_predicate st1 l (number st.names s) ≡ storing.with_object (named st1 (Iri l.predicate) st1.labels) l (number st.names s) (number st1.names (Iri l.predicate))) × (name_count (naming st1.names (Iri l.predicate)) ≤ 262144))
        → LineCase st l xs st.labels
    second e (inl (g, o)) = inr (L5, ap (λ x. x.0) e ∙ g, over (name_count n2) o (naming_count n2 (object_of st2 l)))
    second e (inr (g, k)) = third (e ∙ g) (object_case st2 l (number st.names s) (number n1 (Iri l.predicate)) k)

    first : (((with_line st l).0 ≡ Some L5) × (262144 < name_count (naming st.names (subject_of st l))))
        ⊎ ((with_line st l ≡ storing.with_predicate (named st (subject_of st l) (labels_by st.labels l.subject_sort l.subject)) l (number st.names (subject_of st l))) × (name_count (naming st.names (subject_of st l)) ≤ 262144))
        → LineCase st l xs st.labels
    first (inl (e, o)) = inr (L5, e, over (name_count n1) o (omega (arith, naming_count n1 (Iri l.predicate), naming_count n2 (object_of st2 l))))
    first (inr (e, k)) = second e (verb_case st1 l (number st.names s) k)

-- a line more
pub held_told : (h : Held) (l : LineState) (xs : List Statement) (labels : List (List ℕ)) → HeldTold h xs labels → HeldTold (held_after h l) (xs ++ statement labels l ∷ []) (line_labels labels l)
held_told h l xs labels (inr (code, at, e, limit)) =
    subst (λ x. HeldTold x (xs ++ statement labels l ∷ []) (line_labels labels l)) (sym (ap (λ o. held_by (is_some o) h l) e)) (inr (code, at, e, limit_on xs (statement labels l ∷ []) code at limit))
held_told h l xs labels (inl (e, f)) =
    subst (λ x. HeldTold x (xs ++ statement labels l ∷ []) (line_labels labels l)) (sym (ap (λ o. held_by (is_some o) h l) e))
    (subst (λ b. HeldTold (limited (with_line h.store l).1 (with_line h.store l).0 l.at) (xs ++ statement b l ∷ []) (line_labels b l)) f.labels_are
    (by (line_case h.store l xs (subst (LineFair h.store xs) (sym f.labels_are) f))))
  where
    by : LineCase h.store l xs h.store.labels → HeldTold (limited (with_line h.store l).1 (with_line h.store l).0 l.at) (xs ++ statement h.store.labels l ∷ []) (line_labels h.store.labels l)
    by (inl (g, k)) = subst (λ o. HeldTold (limited (with_line h.store l).1 o l.at) (xs ++ statement h.store.labels l ∷ []) (line_labels h.store.labels l)) (sym g) (inl (refl, k))
    by (inr (c, g, p)) = subst (λ o. HeldTold (limited (with_line h.store l).1 o l.at) (xs ++ statement h.store.labels l ∷ []) (line_labels h.store.labels l)) (sym g)
        (inr (c, l.at, refl, (xs, statement h.store.labels l, [], refl, f.small, p, refl)))
