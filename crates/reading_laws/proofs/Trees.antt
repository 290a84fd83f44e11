-- The reader says what the tree of an object or of pairs means.
use Rattle.std.proofs.Common.{ℕ, List, ◌∷◌, ◌≡◌, refl, ap, ◌∙◌}
use Rattle.std.specs.Prelude.{true, false, Option, None, Some}
use Rattle.rdf_terms.specs.declared.terms.Term.{Term}
use Rattle.turtle_grammar.specs.declared.states.Frame.TheVariants.{ObjectSquare, ObjectRound}
use Rattle.turtle_grammar.specs.declared.states.State.{State}
use Rattle.turtle_grammar.specs.declared.states.State.TheVariants as state
use Rattle.turtle_grammar.specs.declared.states.Step.TheVariants.{Stay}
use Rattle.turtle_grammar.specs.Tokens.{Value, Token}
use Rattle.turtle_grammar.specs.Tokens as tokens
use Rattle.turtle_grammar.specs.Grammar.{Verb, Object, Objects, Pairs, Further, object, items, commas, pairs, further}
use Rattle.turtle_grammar.specs.Grammar.Object.{Named, Labelled, Anonymous, Collection, Nested, Number, Plain, Tagged, Typed}
use Rattle.turtle_grammar.specs.Grammar.Objects.{NoObjects, MoreObjects}
use Rattle.turtle_grammar.specs.Grammar.Pairs.{Pair}
use Rattle.turtle_grammar.specs.Grammar.Further.{NoFurther, Bare, Full}
use Rattle.turtle_documents.specs.declared.document.Link.TheVariants as link
use Rattle.rdf_vocabulary.specs.Iris.{rdf_first, rdf_rest}
use Rattle.turtle_environments.specs.Environments.{EnvironmentState}
use Rattle.turtle_environments.specs.Storing.{iri_term, with_name}
use Rattle.turtle_documents.specs.Documents as spec
use Rattle.turtle_documents.specs.Documents.{after_token, at_state, popped, top_frame, name_iri, lowercase}
use Rattle.reading_laws.specs.Refusals.{read_on}
use Rattle.reading_laws.specs.Meaning.{Graph, node, with_node, with_triple, verb_iri, object_at, object_says, items_say, commas_say, pairs_say, further_say}
use Rattle.reading_laws.proofs.Meanings.{Place, Left, doc, is_in, finished, Goes, IsObject, IsVerb, IsAfter, step_is, link_of, cell_place, cell_graph, begun_in, begun_out, ended_in, ended_out, goes_items, goes_commas, goes_further, out_comma, semicolon_next}
use Rattle.reading_laws.proofs.Leaves.{Begins, leaf_named, leaf_labelled, leaf_number, leaf_string, leaf_tagged, leaf_carets, leaf_typed, leaf_plain, inside, leaf_square, leaf_round, moved, back_round, close_anonymous, close_square, close_state, close_round, left_by, leaf_verb, after_no}

leaf_comma : (c : Place) (e : EnvironmentState) (x : Left) (g : Graph) → is_in c ≡ false → after_token (doc state.AfterObject c None e x g) tokens.Token.Comma ≡ doc state.Object c None e x g
unfolding spec.stayed
leaf_comma c e x g h = step_is state.AfterObject (doc state.AfterObject c None e x g) tokens.Token.Comma (Stay state.Object) refl refl (out_comma (top_frame c.stack) h)

leaf_semicolon : (q : State) (c : Place) (e : EnvironmentState) (x : Left) (g : Graph) → IsAfter q → is_in c ≡ false → after_token (doc q c None e x g) tokens.Token.Semicolon ≡ doc state.VerbOrMore c None e x g
unfolding spec.stayed
leaf_semicolon q c e x g a h = step_is q (doc q c None e x g) tokens.Token.Semicolon (Stay state.VerbOrMore) (after_no q a) refl (semicolon_next q (top_frame c.stack) a h)

abbrev with_verb : Place → EnvironmentState → Graph → Verb → Place
with_verb c e g v = record c { predicate = iri_term g.store (verb_iri e v) }

abbrev verb_graph : EnvironmentState → Graph → Verb → Graph
verb_graph e g v = record g { store = with_name g.store (verb_iri e v) }

abbrev next_cell : Place → Graph → Place
next_cell c g = record c { predicate = iri_term g.store rdf_rest }

abbrev rest_graph : Graph → Graph
rest_graph g = record g { store = with_name g.store rdf_rest }

abbrev first_graph : Place → Option ℕ → ℕ → Graph → Graph
first_graph c first at g = record (cell_graph c first at g) { store = with_name (cell_graph c first at g).store rdf_first }

mutual
  pub object_reads : (o : Object) (q : State) (c0 c : Place) (e : EnvironmentState) (x : Left) (g0 g : Graph) (r : List Token) → IsObject q (is_in c0) → Begins q c0 c e x g0 g (object_at o) → Goes r
      → (y : Left) × (read_on (doc q c0 None e x g0) (object o r) ≡ read_on (finished c e y (object_says o e c.subject c.predicate g)) r)
  object_reads (Named f v) q c0 c e x g0 g r h b k = (record x { iri = name_iri e f v.text v.cut }, ap (λ d. read_on d r) (leaf_named q c0 c e x g0 g f v h b))
  object_reads (Labelled v) q c0 c e x g0 g r h b k = (x, ap (λ d. read_on d r) (leaf_labelled q c0 c e x g0 g v h b))
  object_reads (Anonymous at) q c0 c e x g0 g r h b k = (
    x,
    ap (λ d. read_on d (tokens.Token.CloseSquare ∷ r)) (leaf_square q c0 c e x g0 g at h b)
        ∙ ap (λ d. read_on d r) (close_anonymous c e x (with_triple (with_node g) c.subject c.predicate (node g) at) (node g)),
  )
  object_reads (Collection at xs end) q c0 c e x g0 g r h b k =
      let i = items_reads xs (inside c ObjectRound c.subject) e (record x { link = link.Object at }) g (Some at) end r refl refl in (
        i.0,
        ap (λ d. read_on d (items xs (tokens.Token.CloseRound end ∷ r))) (leaf_round q c0 c e x g0 g at h b)
            ∙ i.3
            ∙ ap (λ d. read_on d r) (back_round c e i.0 (items_say xs e c.subject c.predicate (Some at) end g) i.1 i.2),
      )
  object_reads (Nested at ps) q c0 c e x g0 g r h b k =
      let g1 = with_triple (with_node g) c.subject c.predicate (node g) at in
      let p = pairs_reads ps state.VerbOrClose (inside c ObjectSquare (node g)) e x g1 (tokens.Token.CloseSquare ∷ r) tt refl refl in (
        p.0,
        ap (λ d. read_on d (pairs ps (tokens.Token.CloseSquare ∷ r))) (leaf_square q c0 c e x g0 g at h b)
            ∙ p.4
            ∙ ap (λ d. read_on d r) (close_square p.2 c e p.0 (pairs_say ps e (node g) g1) (node g) p.1 p.3),
      )
  object_reads (Number d v) q c0 c e x g0 g r h b k = (x, ap (λ d. read_on d r) (leaf_number q c0 c e x g0 g d v h b))
  object_reads (Plain v) q c0 c e x g0 g r h b k = (record x { at = v.at }, ap (λ d. read_on d r) (leaf_string q c0 c e x g0 g v h b) ∙ leaf_plain c v.text e (record x { at = v.at }) g r k)
  object_reads (Tagged v w t) q c0 c e x g0 g r h b k = (
    record x { iri = lowercase t.text; at = v.at },
    ap (λ d. read_on d (tokens.Token.At w t ∷ r)) (leaf_string q c0 c e x g0 g v h b)
        ∙ ap (λ d. read_on d r) (leaf_tagged c v.text e (record x { at = v.at }) g w t),
  )
  object_reads (Typed v f t) q c0 c e x g0 g r h b k = (
    record x { iri = name_iri e f t.text t.cut; at = v.at },
    ap (λ d. read_on d (tokens.Token.Carets ∷ tokens.Token.Name f t ∷ r)) (leaf_string q c0 c e x g0 g v h b)
        ∙ ap (λ d. read_on d (tokens.Token.Name f t ∷ r)) (leaf_carets c v.text e (record x { at = v.at }) g)
        ∙ ap (λ d. read_on d r) (leaf_typed c v.text e (record x { at = v.at }) g f t),
  )

  pub items_reads : (xs : Objects) (c : Place) (e : EnvironmentState) (x : Left) (g : Graph) (first : Option ℕ) (end : ℕ) (r : List Token) → is_in c ≡ true → x.link ≡ link_of first
      → (y : Left) × (s : Term) × (p : Term) × (read_on (doc state.AfterObject c None e x g) (items xs (tokens.Token.CloseRound end ∷ r))
      ≡ read_on (at_state (popped (doc state.AfterObject (moved c s p) None e y (items_say xs e c.subject c.predicate first end g))) (close_state (top_frame c.stack))) r)
  items_reads NoObjects c e x g first end r h l = (x, c.subject, c.predicate, ap (λ d. read_on d r) (close_round c e x g end first h l))
  items_reads (MoreObjects o xs) c e x g first end r h l =
      let c1 = cell_place c g (cell_graph c first (object_at o) g) in
      let g1 = first_graph c first (object_at o) g in
      let r1 = items xs (tokens.Token.CloseRound end ∷ r) in
      let a = object_reads o state.AfterObject c c1 e x g g1 r1 h (λ i. begun_in c e (record x { iri = i }) g first (object_at o) h l) (goes_items xs end r) in
      let g2 = object_says o e c1.subject c1.predicate g1 in
      let b = items_reads xs (next_cell c1 g2) e (record a.0 { link = link.Rest }) (rest_graph g2) None end r h refl in
      (b.0, b.1, b.2, a.1 ∙ ap (λ d. read_on d r1) (ended_in c1 e a.0 g2 h) ∙ b.3)

  pub commas_reads : (xs : Objects) (c : Place) (e : EnvironmentState) (x : Left) (g : Graph) (r : List Token) → is_in c ≡ false → Goes r
      → (y : Left) × (read_on (doc state.AfterObject c None e x g) (commas xs r) ≡ read_on (doc state.AfterObject c None e y (commas_say xs e c.subject c.predicate g)) r)
  commas_reads NoObjects c e x g r h k = (x, refl)
  commas_reads (MoreObjects o xs) c e x g r h k =
      let r1 = commas xs r in
      let a = object_reads o state.Object c c e x g g r1 tt (λ i. begun_out state.Object c e (record x { iri = i }) g (object_at o) h) (goes_commas xs r k) in
      let g1 = object_says o e c.subject c.predicate g in
      let b = commas_reads xs c e a.0 g1 r h k in
      (b.0, ap (λ d. read_on d (object o r1)) (leaf_comma c e x g h) ∙ a.1 ∙ ap (λ d. read_on d r1) (ended_out c e a.0 g1 h) ∙ b.1)

  pub pairs_reads : (ps : Pairs) (q : State) (c : Place) (e : EnvironmentState) (x : Left) (g : Graph) (r : List Token) → IsVerb q → is_in c ≡ false → Goes r
      → (y : Left) × (p : Term) × (z : State) × IsAfter z × (read_on (doc q c None e x g) (pairs ps r) ≡ read_on (doc z (record c { predicate = p }) None e y (pairs_say ps e c.subject g)) r)
  pairs_reads (Pair v o xs f) q c e x g r w h k =
      let c1 = with_verb c e g v in
      let x1 = left_by v e x in
      let g1 = verb_graph e g v in
      let r2 = further f r in
      let r1 = commas xs r2 in
      let k2 = goes_further f r k in
      let a = object_reads o state.Object c1 c1 e x1 g1 g1 r1 tt (λ i. begun_out state.Object c1 e (record x1 { iri = i }) g1 (object_at o) h) (goes_commas xs r2 k2) in
      let g2 = object_says o e c1.subject c1.predicate g1 in
      let b = commas_reads xs c1 e a.0 g2 r2 h k2 in
      let d = further_reads f state.AfterObject c1 e b.0 (commas_say xs e c1.subject c1.predicate g2) r tt h k in
      (d.0, d.1, d.2, d.3, ap (λ m. read_on m (object o r1)) (leaf_verb v q c e x g w) ∙ a.1 ∙ ap (λ m. read_on m r1) (ended_out c1 e a.0 g2 h) ∙ b.1 ∙ d.4)

  pub further_reads : (f : Further) (q : State) (c : Place) (e : EnvironmentState) (x : Left) (g : Graph) (r : List Token) → IsAfter q → is_in c ≡ false → Goes r
      → (y : Left) × (p : Term) × (z : State) × IsAfter z × (read_on (doc q c None e x g) (further f r) ≡ read_on (doc z (record c { predicate = p }) None e y (further_say f e c.subject g)) r)
  further_reads NoFurther q c e x g r w h k = (x, c.predicate, q, w, refl)
  further_reads (Bare f) q c e x g r w h k =
      let d = further_reads f state.VerbOrMore c e x g r tt h k in
      (d.0, d.1, d.2, d.3, ap (λ m. read_on m (further f r)) (leaf_semicolon q c e x g w h) ∙ d.4)
  further_reads (Full v o xs f) q c e x g r w h k =
      let c1 = with_verb c e g v in
      let x1 = left_by v e x in
      let g1 = verb_graph e g v in
      let r2 = further f r in
      let r1 = commas xs r2 in
      let k2 = goes_further f r k in
      let a = object_reads o state.Object c1 c1 e x1 g1 g1 r1 tt (λ i. begun_out state.Object c1 e (record x1 { iri = i }) g1 (object_at o) h) (goes_commas xs r2 k2) in
      let g2 = object_says o e c1.subject c1.predicate g1 in
      let b = commas_reads xs c1 e a.0 g2 r2 h k2 in
      let d = further_reads f state.AfterObject c1 e b.0 (commas_say xs e c1.subject c1.predicate g2) r tt h k in (
        d.0,
        d.1,
        d.2,
        d.3,
        ap (λ m. read_on m (pairs (Pair v o xs f) r)) (leaf_semicolon q c e x g w h)
            ∙ ap (λ m. read_on m (object o r1)) (leaf_verb v state.VerbOrMore c e x g tt) ∙ a.1 ∙ ap (λ m. read_on m r1) (ended_out c1 e a.0 g2 h) ∙ b.1 ∙ d.4,
      )
