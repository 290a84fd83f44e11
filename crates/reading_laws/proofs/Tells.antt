-- What a document means is what it tells.
use Rattle.std.proofs.Common.{ℕ, List, [], ◌∷◌, ◌++◌, ◌≡◌, ◌<◌, ◌≤◌, ◌⊎◌, ◌&&◌, not, nat_le, cond, Bool, true, false, length, is_some, refl, ap, ap₂, sym, ◌∙◌, subst, arith, inl, inr, append_assoc, true≢false, length-append}
use Rattle.std.proofs.lemmas.Bool.{cond-true, cond-false}
use Rattle.std.proofs.lemmas.Bool.Decides.{nat_tests}
use Rattle.std.specs.Prelude.{Option, None, Some}
use Rattle.rdf_terms.specs.declared.terms.Code.{Code}
use Rattle.rdf_terms.specs.declared.terms.Code.TheVariants.{L4, L5}
use Rattle.rdf_terms.specs.declared.terms.Literal.{Literal}
use Rattle.rdf_terms.specs.declared.terms.Term.{Term}
use Rattle.rdf_terms.specs.declared.terms.Term.TheVariants as term
use Rattle.rdf_terms.specs.declared.terms.Triple.{Triple}
use Rattle.rdf_terms.specs.Naming.{name_count}
use Rattle.rdf_terms.specs.Terms.{is_held}
use Rattle.rdf_terms.specs.Terms as held
use Rattle.rdf_reading.specs.Room.{has_room}
use Rattle.turtle_grammar.specs.Grammar.{Object, Objects, Pairs, Further, Subject, Document}
use Rattle.turtle_grammar.specs.Grammar.Object.{Named, Labelled, Anonymous, Collection, Nested, Number, Plain, Tagged, Typed}
use Rattle.turtle_grammar.specs.Grammar.Objects.{NoObjects, MoreObjects}
use Rattle.turtle_grammar.specs.Grammar.Pairs.{Pair}
use Rattle.turtle_grammar.specs.Grammar.Further.{NoFurther, Bare, Full}
use Rattle.turtle_grammar.specs.Grammar.Subject.{NamedNode, LabelledNode, AnonymousNode, CollectionNode}
use Rattle.turtle_grammar.specs.Grammar.Document.{NoMore, Direct, Triples, Node, NodePairs}
use Rattle.rdf_vocabulary.specs.Iris.{rdf_first, rdf_rest, rdf_nil, xsd_string}
use Rattle.turtle_environments.specs.Blanks.{label_number, with_label}
use Rattle.turtle_environments.specs.Environments.{EnvironmentState}
use Rattle.turtle_environments.specs.Storing.{StoreState, iri_term, with_name, literal_term, with_value, added}
use Rattle.turtle_documents.specs.Documents.{name_iri, plain_literal}
use Rattle.reading_laws.specs.Meaning.{Graph, no_graph, tagged_literal, verb_iri, object_at, place, object_says, items_say, commas_say, pairs_say, further_say, collection_says, subject_says, directed, document_says}
use Rattle.reading_laws.specs.Meaning as graph
use Rattle.reading_laws.specs.Telling.{Thing, Statement, Told, untold, tell, object_tells, items_tell, commas_tell, pairs_tell, further_tell, subject_is, subject_tells, document_tells, statements}
use Rattle.reading_laws.specs.Telling.Thing.{Iri, Blank, Lit}
use Rattle.reading_laws.specs.Telling as telling
use Rattle.reading_laws.specs.Counting.{naming, number, names_with, with_statement, no_records, records, IsLimit}
use Rattle.reading_laws.proofs.Told.{Pending, AllGood, naming_in, with_push, Fair, Over, Limited, Pre, Post, small_of, node_step, label_step, name_step, value_step}

pub records_push : (xs : List Statement) (x : Statement) → records (xs ++ x ∷ []) ≡ with_statement (records xs) x
records_push xs x = with_push no_records xs x

pub limit_on : (xs ys : List Statement) (code : Code) (at : ℕ) → IsLimit xs code at → IsLimit (xs ++ ys) code at
limit_on xs ys code at (done, x, rest, e, small, passes, p) = (done, x, rest ++ ys, ap (λ zs. zs ++ ys) e ∙ append_assoc done (x ∷ rest) ys, small, passes, p)

-- how many triples there are with one more
pub room_length : (ts : List Triple) (t : Triple) → has_room ts t ≡ true → length ts ≤ 262144 → length (held.with_triple ts t) ≤ 262144
room_length ts t h le = by (is_held ts t) h
  where
    by : (b : Bool) → not (not b && nat_le 262144 (length ts)) ≡ true → length (cond b ts (ts ++ t ∷ [])) ≤ 262144
    by true e = le
    by false e = let few : length ts < 262144 = grind (arith, nat_tests, e) in omega (arith, few, length-append ts (t ∷ []))

pub no_room_length : (ts : List Triple) (t : Triple) → has_room ts t ≡ false → 262144 < length (held.with_triple ts t)
no_room_length ts t h = by (is_held ts t) h
  where
    by : (b : Bool) → not (not b && nat_le 262144 (length ts)) ≡ false → 262144 < length (cond b ts (ts ++ t ∷ []))
    by true e = absurd (true≢false e)
    by false e = let many : 262144 ≤ length ts = grind (arith, nat_tests, e) in omega (arith, many, length-append ts (t ∷ []))

triple_step : (g : Graph) (t : Told) (ks : List Pending) (s p o : Term) (x : Thing) (y : List ℕ) (z : Thing) (at : ℕ) → Pre g t ks ((s, x) ∷ (p, Iri y) ∷ (o, z) ∷ []) → Post (graph.with_triple g s p o at) (tell t x y z at) ks
triple_step g t ks s p o x y z at h = record { blanks = h.blanks; held = by h.held }
  where
    w : Statement
    w = record { s = x; p = y; o = z; at = at }

    u : Triple
    u = record { s = s; p = p; o = o; at = at }

    room : StoreState
    room = record g.store { triples = held.with_triple g.store.triples u }

    last : StoreState
    last = record g.store { full = true; limit = Some (record { code = L4; at = at }) }

    late : StoreState
    late = record g.store { limit = Some (record { code = L5; at = at }) }

    added_is : g.store.limit ≡ None → added g.store u ≡ cond g.store.full late (cond (has_room g.store.triples u) room last)
    added_is e = ap (λ l. cond (is_some l) g.store (cond g.store.full late (cond (has_room g.store.triples u) room last))) e

    fair : Fair g t ks ((s, x) ∷ (p, Iri y) ∷ (o, z) ∷ []) → (b : Bool) → has_room g.store.triples u ≡ b → Limited (graph.with_triple g s p o at) (tell t x y z at) ⊎ Fair (graph.with_triple g s p o at) (tell t x y z at) ks []
    fair f b r =
        let names : g.store.names ≡ names_with (records t.list).names w = f.names in
        let triple : u ≡ record { s = number (names_with (records t.list).names w) x; p = number (names_with (records t.list).names w) (Iri y); o = number (names_with (records t.list).names w) z; at = at } =
        ap (λ a. record { s = a; p = p; o = o; at = at }) (f.pending.0.0 ∙ ap (λ n. number n x) names)
        ∙ ap (λ a. record { s = number (names_with (records t.list).names w) x; p = a; o = o; at = at }) (f.pending.1.0.0 ∙ ap (λ n. number n (Iri y)) names)
        ∙ ap (λ a. record { s = number (names_with (records t.list).names w) x; p = number (names_with (records t.list).names w) (Iri y); o = a; at = at }) (f.pending.1.1.0.0 ∙ ap (λ n. number n z) names) in
        let triples : held.with_triple g.store.triples u ≡ (records (t.list ++ w ∷ [])).triples = ap₂ held.with_triple f.triples triple ∙ ap (λ r. r.triples) (sym (records_push t.list w)) in
        let all_names : g.store.names ≡ (records (t.list ++ w ∷ [])).names = names ∙ ap (λ r. r.names) (sym (records_push t.list w)) in
        both f b r triples all_names
      where
        both : Fair g t ks ((s, x) ∷ (p, Iri y) ∷ (o, z) ∷ []) → (b : Bool) → has_room g.store.triples u ≡ b → held.with_triple g.store.triples u ≡ (records (t.list ++ w ∷ [])).triples
            → g.store.names ≡ (records (t.list ++ w ∷ [])).names → Limited (graph.with_triple g s p o at) (tell t x y z at) ⊎ Fair (graph.with_triple g s p o at) (tell t x y z at) ks []
        both f true r triples names = inr (subst (λ s. Fair (record g { store = s }) (tell t x y z at) ks []) (sym (added_is f.fine ∙ cond-false g.store.full late _ f.unfull ∙ cond-true (has_room g.store.triples u) room last r)) (record {
          unfull = f.unfull;
          fine = f.fine;
          names = names;
          triples = triples;
          few = f.few;
          short = room_length g.store.triples u r f.short;
          pending = tt;
          keeps = f.keeps;
        }))
        both f false r triples names = inl (record {
          code = L4;
          at = at;
          is = ap (λ s. s.limit) (added_is f.fine ∙ cond-false g.store.full late _ f.unfull ∙ cond-false (has_room g.store.triples u) room last r);
          limit = (
            t.list,
            w,
            [],
            refl,
            small_of g t ks ((s, x) ∷ (p, Iri y) ∷ (o, z) ∷ []) f,
            inr (refl, subst (λ n. name_count n ≤ 262144) names f.few, subst (λ us. 262144 < length us) triples (no_room_length g.store.triples u r)),
            refl,
          );
        })

    by : Limited g t ⊎ (Over g t ((s, x) ∷ (p, Iri y) ∷ (o, z) ∷ []) ⊎ Fair g t ks ((s, x) ∷ (p, Iri y) ∷ (o, z) ∷ [])) → Limited (graph.with_triple g s p o at) (tell t x y z at) ⊎ Fair (graph.with_triple g s p o at) (tell t x y z at) ks []
    by (inl l) = inl (record { code = l.code; at = l.at; is = ap (λ s. s.limit) (cond-true (is_some g.store.limit) g.store _ (ap is_some l.is)) ∙ l.is; limit = limit_on t.list (w ∷ []) l.code l.at l.limit })
    by (inr (inl l)) = inl (record {
      code = L5;
      at = at;
      is = ap (λ s. s.limit) (added_is l.fine ∙ cond-true g.store.full late _ l.full);
      limit = (t.list, w, [], refl, l.small, inl (refl, subst (λ r. 262144 < name_count r.names) (sym (records_push t.list w)) l.over), refl);
    })
    by (inr (inr f)) = fair f (has_room g.store.triples u) refl

-- pairs that are kept
keeping : (g : Graph) (t : Told) (ks ls ps : List Pending) → (AllGood g.store.names ps → AllGood g.store.names ks → AllGood g.store.names ls) → Pre g t ks ps → Pre g t ls ps
keeping g t ks ls ps f h = record { blanks = h.blanks; held = by h.held }
  where
    by : Limited g t ⊎ (Over g t ps ⊎ Fair g t ks ps) → Limited g t ⊎ (Over g t ps ⊎ Fair g t ls ps)
    by (inl x) = inl x
    by (inr (inl x)) = inr (inl x)
    by (inr (inr x)) = inr (inr (record { unfull = x.unfull; fine = x.fine; names = x.names; triples = x.triples; few = x.few; short = x.short; pending = x.pending; keeps = f x.pending x.keeps }))

-- a pair that is kept is named again
pending : (g : Graph) (t : Told) (ks : List Pending) (k : Pending) → Post g t (k ∷ ks) → Pre g t (k ∷ ks) (k ∷ [])
pending g t ks k h = record { blanks = h.blanks; held = by h.held }
  where
    by : Limited g t ⊎ Fair g t (k ∷ ks) [] → Limited g t ⊎ (Over g t (k ∷ []) ⊎ Fair g t (k ∷ ks) (k ∷ []))
    by (inl x) = inl x
    by (inr x) =
        let again : naming g.store.names k.1 ≡ g.store.names = naming_in g.store.names k.1 x.keeps.0.1 in
        inr (inr (record { unfull = x.unfull; fine = x.fine; names = sym again ∙ ap (λ n. naming n k.1) x.names; triples = x.triples; few = x.few; short = x.short; pending = (x.keeps.0, tt); keeps = x.keeps }))

pending_two : (g : Graph) (t : Told) (ks : List Pending) (s p : Pending) → Post g t (p ∷ s ∷ ks) → Pre g t (p ∷ s ∷ ks) (s ∷ p ∷ [])
pending_two g t ks s p h = record { blanks = h.blanks; held = by h.held }
  where
    by : Limited g t ⊎ Fair g t (p ∷ s ∷ ks) [] → Limited g t ⊎ (Over g t (s ∷ p ∷ []) ⊎ Fair g t (p ∷ s ∷ ks) (s ∷ p ∷ []))
    by (inl x) = inl x
    by (inr x) =
        let one : naming g.store.names s.1 ≡ g.store.names = naming_in g.store.names s.1 x.keeps.1.0.1 in
        let two : naming g.store.names p.1 ≡ g.store.names = naming_in g.store.names p.1 x.keeps.0.1 in
        inr (inr (record {
          unfull = x.unfull;
          fine = x.fine;
          names = sym two ∙ ap (λ n. naming n p.1) (sym one) ∙ ap (λ n. naming (naming n s.1) p.1) x.names;
          triples = x.triples;
          few = x.few;
          short = x.short;
          pending = (x.keeps.1.0, (x.keeps.0, tt));
          keeps = x.keeps;
        }))

forget : (g : Graph) (t : Told) (ks : List Pending) (k : Pending) → Post g t (k ∷ ks) → Post g t ks
forget g t ks k h = record { blanks = h.blanks; held = by h.held }
  where
    by : Limited g t ⊎ Fair g t (k ∷ ks) [] → Limited g t ⊎ Fair g t ks []
    by (inl x) = inl x
    by (inr x) = inr (record { unfull = x.unfull; fine = x.fine; names = x.names; triples = x.triples; few = x.few; short = x.short; pending = tt; keeps = x.keeps.1 })

ready : (g : Graph) (t : Told) (ks : List Pending) → Post g t ks → Pre g t ks []
ready g t ks h = record { blanks = h.blanks; held = by h.held }
  where
    by : Limited g t ⊎ Fair g t ks [] → Limited g t ⊎ (Over g t [] ⊎ Fair g t ks [])
    by (inl x) = inl x
    by (inr x) = inr (inr x)

keep_one : (g : Graph) (t : Told) (ks : List Pending) (k : Pending) → Pre g t ks (k ∷ []) → Pre g t (k ∷ ks) (k ∷ [])
keep_one g t ks k h = keeping g t ks (k ∷ ks) (k ∷ []) (λ a b. (a.0, b)) h

keep_two : (g : Graph) (t : Told) (ks : List Pending) (s p : Pending) → Pre g t ks (s ∷ p ∷ []) → Pre g t (p ∷ s ∷ ks) (s ∷ p ∷ [])
keep_two g t ks s p h = keeping g t ks (p ∷ s ∷ ks) (s ∷ p ∷ []) (λ a b. (a.1.0, (a.0, b))) h

keep_last : (g : Graph) (t : Told) (ks : List Pending) (s p o : Pending) → Pre g t ks (s ∷ p ∷ o ∷ []) → Pre g t (o ∷ ks) (s ∷ p ∷ o ∷ [])
keep_last g t ks s p o h = keeping g t ks (o ∷ ks) (s ∷ p ∷ o ∷ []) (λ a b. (a.1.1.0, b)) h

iri_object : (iri : List ℕ) (s p : Term) (x : Thing) (y : List ℕ) (at : ℕ) (g : Graph) (t : Told) (ks : List Pending) → Pre g t ks ((s, x) ∷ (p, Iri y) ∷ []) → Post (graph.with_iri g s p iri at) (tell t x y (Iri iri) at) ks
iri_object iri s p x y at g t ks h = triple_step (record g { store = with_name g.store iri }) t ks s p (iri_term g.store iri) x y (Iri iri) at (name_step g t ks ((s, x) ∷ (p, Iri y) ∷ []) iri h)

literal_object : (v : Literal) (s p : Term) (x : Thing) (y : List ℕ) (at : ℕ) (g : Graph) (t : Told) (ks : List Pending) → Pre g t ks ((s, x) ∷ (p, Iri y) ∷ []) → Post (graph.with_literal g s p v at) (tell t x y (Lit v) at) ks
literal_object v s p x y at g t ks h = triple_step (record g { store = with_value g.store v }) t ks s p (literal_term g.store v) x y (Lit v) at (value_step g t ks ((s, x) ∷ (p, Iri y) ∷ []) v h)

abbrev pair : Graph → Told → Pending
pair g t = (graph.node g, telling.node t)

node_object : (s p : Term) (x : Thing) (y : List ℕ) (at : ℕ) (g : Graph) (t : Told) (ks : List Pending) → Pre g t ks ((s, x) ∷ (p, Iri y) ∷ [])
    → Post (graph.with_triple (graph.with_node g) s p (graph.node g) at) (tell (telling.with_node t) x y (telling.node t) at) ((pair g t) ∷ ks)
node_object s p x y at g t ks h = triple_step (graph.with_node g) (telling.with_node t) ((pair g t) ∷ ks) s p (graph.node g) x y (telling.node t) at
    (keep_last (graph.with_node g) (telling.with_node t) ks (s, x) (p, Iri y) (pair g t) (node_step g t ks ((s, x) ∷ (p, Iri y) ∷ []) h))

mutual
  object_told : (w : Object) (e : EnvironmentState) (s p : Term) (x : Thing) (y : List ℕ) (g : Graph) (t : Told) (ks : List Pending) → Pre g t ks ((s, x) ∷ (p, Iri y) ∷ []) → Post (object_says w e s p g) (object_tells w e x y t) ks
  object_told (Named f v) e s p x y g t ks h = iri_object (name_iri e f v.text v.cut) s p x y v.at g t ks h
  object_told (Labelled v) e s p x y g t ks h =
      triple_step (record g { blanks = with_label g.blanks v.text }) (telling.labelled t v.text) ks s p (term.Blank (label_number g.blanks v.text)) x y (Blank (label_number t.blanks v.text)) v.at (label_step g t ks ((s, x) ∷ (p, Iri y) ∷ []) v.text h)
  object_told (Anonymous at) e s p x y g t ks h =
      forget (graph.with_triple (graph.with_node g) s p (graph.node g) at) (tell (telling.with_node t) x y (telling.node t) at) ks (pair g t) (node_object s p x y at g t ks h)
  object_told (Collection at xs end) e s p x y g t ks h = items_told xs e s p x y (Some at) end g t ks h
  object_told (Nested at q) e s p x y g t ks h =
      let f : Graph = graph.with_triple (graph.with_node g) s p (graph.node g) at in
      let u : Told = tell (telling.with_node t) x y (telling.node t) at in
      forget (pairs_say q e (graph.node g) f) (pairs_tell q e (telling.node t) u) ks (pair g t) (pairs_told q e (graph.node g) (telling.node t) f u ks (pending f u ks (pair g t) (node_object s p x y at g t ks h)))
  object_told (Number d v) e s p x y g t ks h = literal_object (plain_literal v.text d) s p x y v.at g t ks h
  object_told (Plain v) e s p x y g t ks h = literal_object (plain_literal v.text xsd_string) s p x y v.at g t ks h
  object_told (Tagged v w i) e s p x y g t ks h = literal_object (tagged_literal v.text i.text) s p x y v.at g t ks h
  object_told (Typed v f i) e s p x y g t ks h = literal_object (plain_literal v.text (name_iri e f i.text i.cut)) s p x y v.at g t ks h

  items_told : (xs : Objects) (e : EnvironmentState) (s p : Term) (x : Thing) (y : List ℕ) (first : Option ℕ) (end : ℕ) (g : Graph) (t : Told) (ks : List Pending) → Pre g t ks ((s, x) ∷ (p, Iri y) ∷ [])
      → Post (items_say xs e s p first end g) (items_tell xs e x y first end t) ks
  items_told NoObjects e s p x y first end g t ks h = iri_object rdf_nil s p x y (place first end) g t ks h
  items_told (MoreObjects w xs) e s p x y first end g t ks h =
      let n : Term = graph.node g in
      let m : Thing = telling.node t in
      let f : Graph = graph.with_triple (graph.with_node g) s p n (place first (object_at w)) in
      let u : Told = tell (telling.with_node t) x y m (place first (object_at w)) in
      let q : Term = iri_term f.store rdf_first in
      let i : Graph = record f { store = with_name f.store rdf_first } in
      let j : Graph = object_says w e n q i in
      let a : Told = object_tells w e m rdf_first u in
      let r : Term = iri_term j.store rdf_rest in
      let k : Graph = record j { store = with_name j.store rdf_rest } in
      let one = name_step f u ((n, m) ∷ ks) ((n, m) ∷ []) rdf_first (pending f u ks (n, m) (node_object s p x y (place first (object_at w)) g t ks h)) in
      let two = object_told w e n q m rdf_first i u ((n, m) ∷ ks) one in
      let three = name_step j a ((n, m) ∷ ks) ((n, m) ∷ []) rdf_rest (pending j a ks (n, m) two) in
      forget (items_say xs e n r None end k) (items_tell xs e m rdf_rest None end a) ks (n, m) (items_told xs e n r m rdf_rest None end k a ((n, m) ∷ ks) three)

  commas_told : (xs : Objects) (e : EnvironmentState) (s p : Term) (x : Thing) (y : List ℕ) (g : Graph) (t : Told) (ks : List Pending) → Post g t ((p, Iri y) ∷ (s, x) ∷ ks)
      → Post (commas_say xs e s p g) (commas_tell xs e x y t) ((p, Iri y) ∷ (s, x) ∷ ks)
  commas_told NoObjects e s p x y g t ks h = h
  commas_told (MoreObjects w xs) e s p x y g t ks h =
      commas_told xs e s p x y (object_says w e s p g) (object_tells w e x y t) ks (object_told w e s p x y g t ((p, Iri y) ∷ (s, x) ∷ ks) (pending_two g t ks (s, x) (p, Iri y) h))

  pairs_told : (q : Pairs) (e : EnvironmentState) (s : Term) (x : Thing) (g : Graph) (t : Told) (ks : List Pending) → Pre g t ((s, x) ∷ ks) ((s, x) ∷ []) → Post (pairs_say q e s g) (pairs_tell q e x t) ((s, x) ∷ ks)
  pairs_told (Pair v w xs f) e s x g t ks h =
      let y : List ℕ = verb_iri e v in
      let p : Term = iri_term g.store y in
      let i : Graph = record g { store = with_name g.store y } in
      let one = keep_two i t ((s, x) ∷ ks) (s, x) (p, Iri y) (name_step g t ((s, x) ∷ ks) ((s, x) ∷ []) y h) in
      let two = object_told w e s p x y i t ((p, Iri y) ∷ (s, x) ∷ (s, x) ∷ ks) one in
      let j : Graph = commas_say xs e s p (object_says w e s p i) in
      let a : Told = commas_tell xs e x y (object_tells w e x y t) in
      let three = commas_told xs e s p x y (object_says w e s p i) (object_tells w e x y t) ((s, x) ∷ ks) two in
      further_told f e s x j a ks (forget j a ((s, x) ∷ ks) (s, x) (forget j a ((s, x) ∷ (s, x) ∷ ks) (p, Iri y) three))

  further_told : (f : Further) (e : EnvironmentState) (s : Term) (x : Thing) (g : Graph) (t : Told) (ks : List Pending) → Post g t ((s, x) ∷ ks) → Post (further_say f e s g) (further_tell f e x t) ((s, x) ∷ ks)
  further_told NoFurther e s x g t ks h = h
  further_told (Bare f) e s x g t ks h = further_told f e s x g t ks h
  further_told (Full v w xs f) e s x g t ks h =
      let y : List ℕ = verb_iri e v in
      let p : Term = iri_term g.store y in
      let i : Graph = record g { store = with_name g.store y } in
      let one = keep_two i t ((s, x) ∷ ks) (s, x) (p, Iri y) (name_step g t ((s, x) ∷ ks) ((s, x) ∷ []) y (pending g t ks (s, x) h)) in
      let two = object_told w e s p x y i t ((p, Iri y) ∷ (s, x) ∷ (s, x) ∷ ks) one in
      let j : Graph = commas_say xs e s p (object_says w e s p i) in
      let a : Told = commas_tell xs e x y (object_tells w e x y t) in
      let three = commas_told xs e s p x y (object_says w e s p i) (object_tells w e x y t) ((s, x) ∷ ks) two in
      further_told f e s x j a ks (forget j a ((s, x) ∷ ks) (s, x) (forget j a ((s, x) ∷ (s, x) ∷ ks) (p, Iri y) three))

statement_told : (q : Pairs) (e : EnvironmentState) (s : Term) (x : Thing) (g : Graph) (t : Told) → Pre g t [] ((s, x) ∷ []) → Post (pairs_say q e s g) (pairs_tell q e x t) []
statement_told q e s x g t h = forget (pairs_say q e s g) (pairs_tell q e x t) [] (s, x) (pairs_told q e s x g t [] (keep_one g t [] (s, x) h))

subject_told : (u : Subject) (e : EnvironmentState) (q : Pairs) (g : Graph) (t : Told) → Post g t [] → Post (subject_says u e g (λ n h. pairs_say q e n h)) (pairs_tell q e (subject_is u e t) (subject_tells u e t)) []
subject_told (NamedNode f v) e q g t h = let iri : List ℕ = name_iri e f v.text v.cut in
    statement_told q e (iri_term g.store iri) (Iri iri) (record g { store = with_name g.store iri }) t (name_step g t [] [] iri (ready g t [] h))
subject_told (LabelledNode v) e q g t h =
    statement_told q e (term.Blank (label_number g.blanks v.text)) (Blank (label_number t.blanks v.text)) (record g { blanks = with_label g.blanks v.text }) (telling.labelled t v.text) (label_step g t [] [] v.text (ready g t [] h))
subject_told (AnonymousNode at) e q g t h = statement_told q e (graph.node g) (telling.node t) (graph.with_node g) (telling.with_node t) (node_step g t [] [] (ready g t [] h))
subject_told (CollectionNode at NoObjects end) e q g t h =
    statement_told q e (iri_term g.store rdf_nil) (Iri rdf_nil) (record g { store = with_name g.store rdf_nil }) t (name_step g t [] [] rdf_nil (ready g t [] h))
subject_told (CollectionNode at (MoreObjects w xs) end) e q g t h =
    let n : Term = graph.node g in
    let m : Thing = telling.node t in
    let f : Graph = graph.with_node g in
    let u : Told = telling.with_node t in
    let p : Term = iri_term f.store rdf_first in
    let i : Graph = record f { store = with_name f.store rdf_first } in
    let j : Graph = object_says w e n p i in
    let a : Told = object_tells w e m rdf_first u in
    let r : Term = iri_term j.store rdf_rest in
    let k : Graph = record j { store = with_name j.store rdf_rest } in
    let l : Graph = items_say xs e n r None end k in
    let b : Told = items_tell xs e m rdf_rest None end a in
    let one = name_step f u ((n, m) ∷ []) ((n, m) ∷ []) rdf_first (keep_one f u [] (n, m) (node_step g t [] [] (ready g t [] h))) in
    let two = object_told w e n p m rdf_first i u ((n, m) ∷ []) one in
    let three = name_step j a ((n, m) ∷ []) ((n, m) ∷ []) rdf_rest (pending j a [] (n, m) two) in
    let four = items_told xs e n r m rdf_rest None end k a ((n, m) ∷ []) three in
    forget (pairs_say q e n l) (pairs_tell q e m b) [] (n, m) (pairs_told q e n m l b [] (pending l b [] (n, m) four))

document_told : (d : Document) (e : EnvironmentState) (g : Graph) (t : Told) → Post g t [] → Post (document_says d e g) (document_tells d e t) []
document_told NoMore e g t h = h
document_told (Direct x d) e g t h = document_told d (directed x e) g t h
document_told (Triples s p d) e g t h = document_told d e (subject_says s e g (λ n h. pairs_say p e n h)) (pairs_tell p e (subject_is s e t) (subject_tells s e t)) (subject_told s e p g t h)
document_told (Node at p d) e g t h =
    document_told d e (pairs_say p e (graph.node g) (graph.with_node g)) (pairs_tell p e (telling.node t) (telling.with_node t))
    (statement_told p e (graph.node g) (telling.node t) (graph.with_node g) (telling.with_node t) (node_step g t [] [] (ready g t [] h)))
document_told (NodePairs at p q d) e g t h =
    let n : Pending = pair g t in
    let f : Graph = pairs_say p e n.0 (graph.with_node g) in
    let u : Told = pairs_tell p e n.1 (telling.with_node t) in
    let one = pairs_told p e n.0 n.1 (graph.with_node g) (telling.with_node t) [] (keep_one (graph.with_node g) (telling.with_node t) [] n (node_step g t [] [] (ready g t [] h))) in
    document_told d e (pairs_say q e n.0 f) (pairs_tell q e n.1 u) (forget (pairs_say q e n.0 f) (pairs_tell q e n.1 u) [] n (pairs_told q e n.0 n.1 f u [] (pending f u [] n one)))

pub told : (d : Document) (e : EnvironmentState) → Post (document_says d e no_graph) (document_tells d e untold) []
told d e = document_told d e no_graph untold (record { blanks = refl; held = inr (record { unfull = refl; fine = refl; names = refl; triples = refl; few = omega arith; short = omega arith; pending = tt; keeps = tt }) })
