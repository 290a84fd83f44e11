-- A document's graph is numbered by first coming.
use Rattle.std.proofs.Common.{ℕ, List, [], ◌∷◌, ◌++◌, ◌≡◌, true, false, refl, subst, inl, inr, arith}
use Rattle.std.specs.Prelude.{Option, None, Some}
use Rattle.std.proofs.lemmas.Bool.{cond_both}
use Rattle.rdf_terms.specs.Fitting.{is_iri, is_literal}
use Rattle.rdf_reading.specs.Room.{is_full_iri}
use Rattle.rdf_terms.specs.declared.terms.Literal.{Literal}
use Rattle.rdf_terms.specs.declared.terms.Term.{Term}
use Rattle.rdf_terms.specs.declared.terms.Term.TheVariants.{Blank}
use Rattle.turtle_grammar.specs.Grammar.{Object, Objects, Pairs, Further, Subject, Document}
use Rattle.turtle_grammar.specs.Grammar.Object.{Named, Labelled, Anonymous, Collection, Nested, Number, Plain, Tagged, Typed}
use Rattle.turtle_grammar.specs.Grammar.Objects.{NoObjects, MoreObjects}
use Rattle.turtle_grammar.specs.Grammar.Pairs.{Pair}
use Rattle.turtle_grammar.specs.Grammar.Further.{NoFurther, Bare, Full}
use Rattle.turtle_grammar.specs.Grammar.Subject.{NamedNode, LabelledNode, AnonymousNode, CollectionNode}
use Rattle.turtle_grammar.specs.Grammar.Document.{NoMore, Direct, Triples, Node, NodePairs}
use Rattle.rdf_vocabulary.specs.Iris.{rdf_first, rdf_rest, rdf_nil, xsd_string}
use Rattle.turtle_environments.specs.Blanks.{label_number, with_label}
use Rattle.turtle_environments.specs.Environments.{EnvironmentState}
use Rattle.turtle_environments.specs.Storing.{StoreState, iri_term, with_name, literal_term, with_value}
use Rattle.turtle_documents.specs.Documents.{name_iri, plain_literal}
use Rattle.reading_laws.specs.Meaning.{Graph, no_graph, node, with_node, with_triple, with_iri, with_literal, tagged_literal, verb_iri, object_at, place, object_says, items_say, commas_say, pairs_say, further_say, collection_says, subject_says, directed, document_says}
use Rattle.reading_laws.specs.Numbering.{nothing, AreNumbered, terms}
use Rattle.reading_laws.proofs.Numbers.{AllKnown, numbered_split, numbered_known, numbered_again, numbered_on, once_none}
use Rattle.reading_laws.proofs.Graphs.{counts, Orderly, Pre, Post, node_step, name_step, value_step, label_step, triple_step}

-- terms that are to come are known behind them
pending_known : (g : Graph) (ks ps : List Term) → Orderly g ks ps → AllKnown (counts g) ps
pending_known g ks ps o = let r = numbered_split nothing (terms g.store.triples) ps (counts g) o.numbered in numbered_known r.0 ps (counts g) r.2

keeping : (g : Graph) (ks ls ps : List Term) → (AllKnown (counts g) ps → AllKnown (counts g) ks → AllKnown (counts g) ls) → Pre g ks ps → Pre g ls ps
keeping g ks ls ps f (inl h) = inl h
keeping g ks ls ps f (inr o) = inr (record {
  unfull = o.unfull;
  fine = o.fine;
  numbered = o.numbered;
  keeps = f (pending_known g ks ps o) o.keeps;
  iris = o.iris;
  literals = o.literals;
  triples = o.triples;
  nodes = o.nodes;
  labels = o.labels;
  few = o.few;
  short = o.short;
})

-- a term that is known comes again
pending : (g : Graph) (ks : List Term) (t : Term) → Post g (t ∷ ks) → Pre g (t ∷ ks) (t ∷ [])
pending g ks t (inl h) = inl (inr h)
pending g ks t (inr o) = inr (record {
  unfull = o.unfull;
  fine = o.fine;
  numbered = again (numbered_split nothing (terms g.store.triples) [] (counts g) o.numbered);
  keeps = o.keeps;
  iris = o.iris;
  literals = o.literals;
  triples = o.triples;
  nodes = o.nodes;
  labels = o.labels;
  few = o.few;
  short = o.short;
})
  where
    again : ((d : _) × AreNumbered nothing (terms g.store.triples) d × (d ≡ counts g)) → AreNumbered nothing (terms g.store.triples ++ t ∷ []) (counts g)
    again r = numbered_on nothing (terms g.store.triples) (t ∷ []) (counts g) (counts g) (subst (AreNumbered nothing (terms g.store.triples)) r.2 r.1) (numbered_again (counts g) (t ∷ []) (o.keeps.0, tt))

pending_two : (g : Graph) (ks : List Term) (s p : Term) → Post g (p ∷ s ∷ ks) → Pre g (p ∷ s ∷ ks) (s ∷ p ∷ [])
pending_two g ks s p (inl h) = inl (inr h)
pending_two g ks s p (inr o) = inr (record {
  unfull = o.unfull;
  fine = o.fine;
  numbered = again (numbered_split nothing (terms g.store.triples) [] (counts g) o.numbered);
  keeps = o.keeps;
  iris = o.iris;
  literals = o.literals;
  triples = o.triples;
  nodes = o.nodes;
  labels = o.labels;
  few = o.few;
  short = o.short;
})
  where
    again : ((d : _) × AreNumbered nothing (terms g.store.triples) d × (d ≡ counts g)) → AreNumbered nothing (terms g.store.triples ++ s ∷ p ∷ []) (counts g)
    again r = numbered_on nothing (terms g.store.triples) (s ∷ p ∷ []) (counts g) (counts g) (subst (AreNumbered nothing (terms g.store.triples)) r.2 r.1) (numbered_again (counts g) (s ∷ p ∷ []) (o.keeps.1.0, (o.keeps.0, tt)))

forget : (g : Graph) (ks : List Term) (t : Term) → Post g (t ∷ ks) → Post g ks
forget g ks t (inl h) = inl h
forget g ks t (inr o) = inr (record {
  unfull = o.unfull;
  fine = o.fine;
  numbered = o.numbered;
  keeps = o.keeps.1;
  iris = o.iris;
  literals = o.literals;
  triples = o.triples;
  nodes = o.nodes;
  labels = o.labels;
  few = o.few;
  short = o.short;
})

ready : (g : Graph) (ks : List Term) → Post g ks → Pre g ks []
ready g ks (inl h) = inl (inr h)
ready g ks (inr o) = inr o

keep_one : (g : Graph) (ks : List Term) (t : Term) → Pre g ks (t ∷ []) → Pre g (t ∷ ks) (t ∷ [])
keep_one g ks t = keeping g ks (t ∷ ks) (t ∷ []) (λ a b. (a.0, b))

keep_two : (g : Graph) (ks : List Term) (s p : Term) → Pre g ks (s ∷ p ∷ []) → Pre g (p ∷ s ∷ ks) (s ∷ p ∷ [])
keep_two g ks s p = keeping g ks (p ∷ s ∷ ks) (s ∷ p ∷ []) (λ a b. (a.1.0, (a.0, b)))

keep_last : (g : Graph) (ks : List Term) (s p o : Term) → Pre g ks (s ∷ p ∷ o ∷ []) → Pre g (o ∷ ks) (s ∷ p ∷ o ∷ [])
keep_last g ks s p o = keeping g ks (o ∷ ks) (s ∷ p ∷ o ∷ []) (λ a b. (a.1.1.0, b))

-- an IRI's term is one
term_iri : (s : StoreState) (text : List ℕ) → is_iri (iri_term s text) ≡ true
term_iri s text = cond_both {A = Term} s.full _ _ (λ t. is_iri t ≡ true) (λ e. refl) (λ e. cond_both {A = Term} (is_full_iri s.names text) _ _ (λ t. is_iri t ≡ true) (λ e. refl) (λ e. refl))

term_node : (s : StoreState) (text : List ℕ) → is_literal (iri_term s text) ≡ false
term_node s text = cond_both {A = Term} s.full _ _ (λ t. is_literal t ≡ false) (λ e. refl) (λ e. cond_both {A = Term} (is_full_iri s.names text) _ _ (λ t. is_literal t ≡ false) (λ e. refl) (λ e. refl))

iri_object : (iri : List ℕ) (s p : Term) (at : ℕ) (g : Graph) (ks : List Term) → is_literal s ≡ false → is_iri p ≡ true → Pre g ks (s ∷ p ∷ []) → Post (with_iri g s p iri at) ks
iri_object iri s p at g ks a b h = triple_step (record g { store = with_name g.store iri }) ks s p (iri_term g.store iri) at a b (name_step g ks (s ∷ p ∷ []) iri h)

literal_object : (v : Literal) (s p : Term) (at : ℕ) (g : Graph) (ks : List Term) → is_literal s ≡ false → is_iri p ≡ true → Pre g ks (s ∷ p ∷ []) → Post (with_literal g s p v at) ks
literal_object v s p at g ks a b h = triple_step (record g { store = with_value g.store v }) ks s p (literal_term g.store v) at a b (value_step g ks (s ∷ p ∷ []) v h)

-- the next node as the object
node_object : (s p : Term) (at : ℕ) (g : Graph) (ks : List Term) → is_literal s ≡ false → is_iri p ≡ true → Pre g ks (s ∷ p ∷ []) → Post (with_triple (with_node g) s p (node g) at) ((node g) ∷ ks)
node_object s p at g ks a b h = triple_step (with_node g) ((node g) ∷ ks) s p (node g) at a b (keep_last (with_node g) ks s p (node g) (node_step g ks (s ∷ p ∷ []) h))

mutual
  object_keeps : (x : Object) (e : EnvironmentState) (s p : Term) (g : Graph) (ks : List Term) → is_literal s ≡ false → is_iri p ≡ true → Pre g ks (s ∷ p ∷ []) → Post (object_says x e s p g) ks
  object_keeps (Named f v) e s p g ks a b h = iri_object (name_iri e f v.text v.cut) s p v.at g ks a b h
  object_keeps (Labelled v) e s p g ks a b h = triple_step (record g { blanks = with_label g.blanks v.text }) ks s p (Blank (label_number g.blanks v.text)) v.at a b (label_step g ks (s ∷ p ∷ []) v.text h)
  object_keeps (Anonymous at) e s p g ks a b h = forget (with_triple (with_node g) s p (node g) at) ks (node g) (node_object s p at g ks a b h)
  object_keeps (Collection at xs end) e s p g ks a b h = items_keep xs e s p (Some at) end g ks a b h
  object_keeps (Nested at q) e s p g ks a b h =
      let f : Graph = with_triple (with_node g) s p (node g) at in
      forget (pairs_say q e (node g) f) ks (node g) (pairs_keep q e (node g) f ks refl (pending f ks (node g) (node_object s p at g ks a b h)))
  object_keeps (Number d v) e s p g ks a b h = literal_object (plain_literal v.text d) s p v.at g ks a b h
  object_keeps (Plain v) e s p g ks a b h = literal_object (plain_literal v.text xsd_string) s p v.at g ks a b h
  object_keeps (Tagged v w t) e s p g ks a b h = literal_object (tagged_literal v.text t.text) s p v.at g ks a b h
  object_keeps (Typed v f t) e s p g ks a b h = literal_object (plain_literal v.text (name_iri e f t.text t.cut)) s p v.at g ks a b h

  items_keep : (xs : Objects) (e : EnvironmentState) (s p : Term) (first : Option ℕ) (end : ℕ) (g : Graph) (ks : List Term) → is_literal s ≡ false → is_iri p ≡ true → Pre g ks (s ∷ p ∷ [])
      → Post (items_say xs e s p first end g) ks
  items_keep NoObjects e s p first end g ks a b h = iri_object rdf_nil s p (place first end) g ks a b h
  items_keep (MoreObjects x xs) e s p first end g ks a b h =
      let n : Term = node g in
      let f : Graph = with_triple (with_node g) s p n (place first (object_at x)) in
      let q : Term = iri_term f.store rdf_first in
      let i : Graph = record f { store = with_name f.store rdf_first } in
      let j : Graph = object_says x e n q i in
      let r : Term = iri_term j.store rdf_rest in
      let k : Graph = record j { store = with_name j.store rdf_rest } in
      let one = name_step f (n ∷ ks) (n ∷ []) rdf_first (pending f ks n (node_object s p (place first (object_at x)) g ks a b h)) in
      let two = object_keeps x e n q i (n ∷ ks) refl (term_iri f.store rdf_first) one in
      let three = name_step j (n ∷ ks) (n ∷ []) rdf_rest (pending j ks n two) in
      forget (items_say xs e n r None end k) ks n (items_keep xs e n r None end k (n ∷ ks) refl (term_iri j.store rdf_rest) three)

  commas_keep : (xs : Objects) (e : EnvironmentState) (s p : Term) (g : Graph) (ks : List Term) → is_literal s ≡ false → is_iri p ≡ true → Post g (p ∷ s ∷ ks) → Post (commas_say xs e s p g) (p ∷ s ∷ ks)
  commas_keep NoObjects e s p g ks a b h = h
  commas_keep (MoreObjects x xs) e s p g ks a b h =
      commas_keep xs e s p (object_says x e s p g) ks a b (object_keeps x e s p g (p ∷ s ∷ ks) a b (pending_two g ks s p h))

  pairs_keep : (q : Pairs) (e : EnvironmentState) (s : Term) (g : Graph) (ks : List Term) → is_literal s ≡ false → Pre g (s ∷ ks) (s ∷ []) → Post (pairs_say q e s g) (s ∷ ks)
  pairs_keep (Pair v x xs f) e s g ks a h =
      let iri : List ℕ = verb_iri e v in
      let p : Term = iri_term g.store iri in
      let i : Graph = record g { store = with_name g.store iri } in
      let b = term_iri g.store iri in
      let one = keep_two i (s ∷ ks) s p (name_step g (s ∷ ks) (s ∷ []) iri h) in
      let two = object_keeps x e s p i (p ∷ s ∷ s ∷ ks) a b one in
      let j : Graph = commas_say xs e s p (object_says x e s p i) in
      let three = commas_keep xs e s p (object_says x e s p i) (s ∷ ks) a b two in
      further_keep f e s j ks a (forget j (s ∷ ks) s (forget j (s ∷ s ∷ ks) p three))

  further_keep : (f : Further) (e : EnvironmentState) (s : Term) (g : Graph) (ks : List Term) → is_literal s ≡ false → Post g (s ∷ ks) → Post (further_say f e s g) (s ∷ ks)
  further_keep NoFurther e s g ks a h = h
  further_keep (Bare f) e s g ks a h = further_keep f e s g ks a h
  further_keep (Full v x xs f) e s g ks a h =
      let iri : List ℕ = verb_iri e v in
      let p : Term = iri_term g.store iri in
      let i : Graph = record g { store = with_name g.store iri } in
      let b = term_iri g.store iri in
      let one = keep_two i (s ∷ ks) s p (name_step g (s ∷ ks) (s ∷ []) iri (pending g ks s h)) in
      let two = object_keeps x e s p i (p ∷ s ∷ s ∷ ks) a b one in
      let j : Graph = commas_say xs e s p (object_says x e s p i) in
      let three = commas_keep xs e s p (object_says x e s p i) (s ∷ ks) a b two in
      further_keep f e s j ks a (forget j (s ∷ ks) s (forget j (s ∷ s ∷ ks) p three))

-- the pairs of a subject, from its term on
statement_keeps : (q : Pairs) (e : EnvironmentState) (s : Term) (g : Graph) → is_literal s ≡ false → Pre g [] (s ∷ []) → Post (pairs_say q e s g) []
statement_keeps q e s g a h = forget (pairs_say q e s g) [] s (pairs_keep q e s g [] a (keep_one g [] s h))

collection_keeps : (xs : Objects) (e : EnvironmentState) (end : ℕ) (q : Pairs) (g : Graph) → Post g [] → Post (collection_says xs e end g (λ n h. pairs_say q e n h)) []
collection_keeps NoObjects e end q g h =
    statement_keeps q e (iri_term g.store rdf_nil) (record g { store = with_name g.store rdf_nil }) (term_node g.store rdf_nil) (name_step g [] [] rdf_nil (ready g [] h))
collection_keeps (MoreObjects x xs) e end q g h =
    let n : Term = node g in
    let f : Graph = with_node g in
    let p : Term = iri_term f.store rdf_first in
    let i : Graph = record f { store = with_name f.store rdf_first } in
    let j : Graph = object_says x e n p i in
    let r : Term = iri_term j.store rdf_rest in
    let k : Graph = record j { store = with_name j.store rdf_rest } in
    let l : Graph = items_say xs e n r None end k in
    let one = name_step f (n ∷ []) (n ∷ []) rdf_first (keep_one f [] n (node_step g [] [] (ready g [] h))) in
    let two = object_keeps x e n p i (n ∷ []) refl (term_iri f.store rdf_first) one in
    let three = name_step j (n ∷ []) (n ∷ []) rdf_rest (pending j [] n two) in
    let four = items_keep xs e n r None end k (n ∷ []) refl (term_iri j.store rdf_rest) three in
    forget (pairs_say q e n l) [] n (pairs_keep q e n l [] refl (pending l [] n four))

subject_keeps : (u : Subject) (e : EnvironmentState) (q : Pairs) (g : Graph) → Post g [] → Post (subject_says u e g (λ n h. pairs_say q e n h)) []
subject_keeps (NamedNode f v) e q g h = let iri : List ℕ = name_iri e f v.text v.cut in
    statement_keeps q e (iri_term g.store iri) (record g { store = with_name g.store iri }) (term_node g.store iri) (name_step g [] [] iri (ready g [] h))
subject_keeps (LabelledNode v) e q g h =
    statement_keeps q e (Blank (label_number g.blanks v.text)) (record g { blanks = with_label g.blanks v.text }) refl (label_step g [] [] v.text (ready g [] h))
subject_keeps (AnonymousNode at) e q g h = statement_keeps q e (node g) (with_node g) refl (node_step g [] [] (ready g [] h))
subject_keeps (CollectionNode at xs end) e q g h = collection_keeps xs e end q g h

document_keeps : (d : Document) (e : EnvironmentState) (g : Graph) → Post g [] → Post (document_says d e g) []
document_keeps NoMore e g h = h
document_keeps (Direct x d) e g h = document_keeps d (directed x e) g h
document_keeps (Triples s p d) e g h = document_keeps d e (subject_says s e g (λ n h. pairs_say p e n h)) (subject_keeps s e p g h)
document_keeps (Node at p d) e g h = document_keeps d e (pairs_say p e (node g) (with_node g)) (statement_keeps p e (node g) (with_node g) refl (node_step g [] [] (ready g [] h)))
document_keeps (NodePairs at p q d) e g h =
    let f : Graph = pairs_say p e (node g) (with_node g) in
    let one = pairs_keep p e (node g) (with_node g) [] refl (keep_one (with_node g) [] (node g) (node_step g [] [] (ready g [] h))) in
    document_keeps d e (pairs_say q e (node g) f) (forget (pairs_say q e (node g) f) [] (node g) (pairs_keep q e (node g) f [] refl (pending f [] (node g) one)))

pub document_orderly : (d : Document) (e : EnvironmentState) → Post (document_says d e no_graph) []
document_orderly d e = document_keeps d e no_graph (inr (record {
  unfull = refl;
  fine = refl;
  numbered = refl;
  keeps = tt;
  iris = once_none;
  literals = once_none;
  triples = once_none;
  nodes = tt;
  labels = tt;
  few = omega arith;
  short = omega arith;
}))
