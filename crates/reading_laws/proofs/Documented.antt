-- The reader says what the tree of a document means.
use Rattle.std.proofs.Common.{ℕ, List, [], ◌∷◌, ◌≡◌, refl, ap, sym, ◌∙◌}
use Rattle.std.specs.Prelude.{Option, None, Some}
use Rattle.rdf_terms.specs.declared.terms.Term.{Term}
use Rattle.rdf_terms.specs.declared.terms.Term.TheVariants.{Blank}
use Rattle.turtle_grammar.specs.declared.terminals.Terminal.TheVariants as terminal
use Rattle.turtle_grammar.specs.declared.states.Frame.TheVariants.{SubjectSquare, SubjectRound}
use Rattle.turtle_grammar.specs.declared.states.State.{State}
use Rattle.turtle_grammar.specs.declared.states.State.TheVariants as state
use Rattle.turtle_grammar.specs.declared.states.Step.TheVariants.{Stay, Pop}
use Rattle.turtle_grammar.specs.Machine.{next}
use Rattle.turtle_grammar.specs.Tokens.{Value, Token}
use Rattle.turtle_grammar.specs.Tokens as tokens
use Rattle.turtle_grammar.specs.Grammar.{Pairs, Subject, Directive, Document, object, items, pairs, subject, directive, document}
use Rattle.turtle_grammar.specs.Grammar.Objects.{NoObjects, MoreObjects}
use Rattle.turtle_grammar.specs.Grammar.Subject.{NamedNode, LabelledNode, AnonymousNode, CollectionNode}
use Rattle.turtle_grammar.specs.Grammar.Directive.{AtPrefix, AtBase, PlainPrefix, PlainBase}
use Rattle.turtle_grammar.specs.Grammar.Document.{NoMore, Direct, Triples, Node, NodePairs}
use Rattle.turtle_documents.specs.declared.document.Link.TheVariants as link
use Rattle.rdf_vocabulary.specs.Iris.{rdf_first, rdf_rest, rdf_nil}
use Rattle.turtle_environments.specs.Blanks.{label_number, with_label}
use Rattle.turtle_environments.specs.Environments.{EnvironmentState, reference_iri}
use Rattle.turtle_environments.specs.Storing.{iri_term, with_name}
use Rattle.turtle_documents.specs.Documents as spec
use Rattle.turtle_documents.specs.Documents.{after_token, at_state, begun, popped, name_iri}
use Rattle.turtle_reader.specs.Answers.{environment}
use Rattle.reading_laws.specs.Refusals.{read_on, read_from}
use Rattle.reading_laws.specs.Meaning.{Graph, no_graph, node, with_node, object_at, object_says, items_say, pairs_say, subject_says, directed, document_says}
use Rattle.reading_laws.proofs.Meanings.{Place, Left, doc, IsAfter, step_is, ended_in, goes_items}
use Rattle.reading_laws.proofs.Leaves.{after_no}
use Rattle.reading_laws.proofs.Trees.{object_reads, items_reads, pairs_reads}

-- between statements, and in a bracket that a statement begins with
abbrev outside : Term → Term → Term → Place
outside s p h = record { stack = []; subject = s; predicate = p; head = h }

abbrev begun_square : Term → Term → Term → Term → Place
begun_square n s p h = record { stack = record { frame = SubjectSquare; subject = n; predicate = p } ∷ []; subject = n; predicate = s; head = h }

abbrev begun_round : Term → Term → Term → Term → Term → Place
begun_round a b s p h = record { stack = record { frame = SubjectRound; subject = a; predicate = b } ∷ []; subject = s; predicate = p; head = h }

-- a subject
cell_begins : (s p h : Term) (e : EnvironmentState) (x : Left) (g : Graph) (at : ℕ)
    → begun (doc state.AfterObject (begun_round s p s p h) None e (record x { link = link.Subject }) g) at
    ≡ doc state.AfterObject (begun_round s p (node g) (iri_term g.store rdf_first) (node g)) None e (record x { link = link.Subject }) (record (with_node g) { store = with_name g.store rdf_first })
unfolding spec.begun spec.linked
cell_begins s p h e x g at = refl

round_opened : (s p h : Term) (e : EnvironmentState) (x : Left) (g : Graph) (at : ℕ)
    → after_token (doc state.Statement (outside s p h) None e x g) (tokens.Token.OpenRound at) ≡ doc state.AfterObject (begun_round s p s p h) None e (record x { link = link.Subject }) g
unfolding spec.settled spec.state_from spec.opened
round_opened s p h e x g at = refl

round_empty : (s p h : Term) (e : EnvironmentState) (x : Left) (g : Graph) (end : ℕ)
    → after_token (doc state.AfterObject (begun_round s p s p h) None e (record x { link = link.Subject }) g) (tokens.Token.CloseRound end)
    ≡ doc state.Verb (outside (iri_term g.store rdf_nil) p (iri_term g.store rdf_nil)) None e (record x { link = link.Subject }) (record g { store = with_name g.store rdf_nil })
unfolding spec.settled spec.state_from spec.closed_cells spec.linked spec.popped spec.ended
round_empty s p h e x g end = refl

round_closed : (a b s p h : Term) (e : EnvironmentState) (y : Left) (g : Graph)
    → at_state (popped (doc state.AfterObject (begun_round a b s p h) None e y g)) state.Verb ≡ doc state.Verb (outside h b h) None e y g
unfolding spec.popped spec.ended
round_closed a b s p h e y g = refl

square_opened : (s p h : Term) (e : EnvironmentState) (x : Left) (g : Graph) (at : ℕ)
    → after_token (doc state.Statement (outside s p h) None e x g) (tokens.Token.OpenSquare at) ≡ doc state.VerbOrClose (begun_square (node g) p p h) None e x (with_node g)
unfolding spec.settled spec.state_from spec.opened
square_opened s p h e x g at = refl

square_empty : (n p h : Term) (e : EnvironmentState) (x : Left) (g : Graph)
    → after_token (doc state.VerbOrClose (begun_square n p p h) None e x g) tokens.Token.CloseSquare ≡ doc state.Verb (outside n p h) None e x g
unfolding spec.settled spec.state_from spec.popped spec.ended
square_empty n p h e x g = refl

close_next : (q : State) → IsAfter q → next q (Some SubjectSquare) terminal.CloseSquare ≡ Pop state.VerbOrDot
close_next state.AfterObject h = refl
close_next state.VerbOrMore h = refl
close_next q h = absurd h

square_popped : (q : State) (n s p h : Term) (e : EnvironmentState) (y : Left) (g : Graph)
    → at_state (popped (doc q (begun_square n s p h) None e y g)) state.VerbOrDot ≡ doc state.VerbOrDot (outside n p h) None e y g
unfolding spec.popped spec.ended
square_popped q n s p h e y g = refl

square_closed : (q : State) (n s p h : Term) (e : EnvironmentState) (y : Left) (g : Graph) → IsAfter q
    → after_token (doc q (begun_square n s p h) None e y g) tokens.Token.CloseSquare ≡ doc state.VerbOrDot (outside n p h) None e y g
square_closed q n s p h e y g a =
    step_is q (doc q (begun_square n s p h) None e y g) tokens.Token.CloseSquare (Pop state.VerbOrDot) (after_no q a) refl (close_next q a)
    ∙ square_popped q n s p h e y g

dot_next : (q : State) → IsAfter q → next q None terminal.Dot ≡ Stay state.Statement
dot_next state.AfterObject h = refl
dot_next state.VerbOrMore h = refl
dot_next q h = absurd h

dot : (q : State) (s p h : Term) (e : EnvironmentState) (y : Left) (g : Graph) → IsAfter q → after_token (doc q (outside s p h) None e y g) tokens.Token.Dot ≡ doc state.Statement (outside s p h) None e y g
unfolding spec.stayed
dot q s p h e y g a = step_is q (doc q (outside s p h) None e y g) tokens.Token.Dot (Stay state.Statement) (after_no q a) refl (dot_next q a)

node_dot : (s p h : Term) (e : EnvironmentState) (y : Left) (g : Graph) → after_token (doc state.VerbOrDot (outside s p h) None e y g) tokens.Token.Dot ≡ doc state.Statement (outside s p h) None e y g
unfolding spec.settled spec.state_from spec.stayed
node_dot s p h e y g = refl

-- the tokens of a subject lead to its pairs, in a graph from which it says what they say
abbrev SubjectReads : Subject → Term → Term → Term → EnvironmentState → Left → Graph → List Token → Type 0
SubjectReads u s p h e x g r = (n : Term) × (b : Term) × (m : Term) × (y : Left) × (i : Graph)
    × (read_on (doc state.Statement (outside s p h) None e x g) (subject u r) ≡ read_on (doc state.Verb (outside n b m) None e y i) r)
    × ((k : Term → Graph → Graph) → subject_says u e g k ≡ k n i)

subject_reads : (u : Subject) (s p h : Term) (e : EnvironmentState) (x : Left) (g : Graph) (r : List Token) → SubjectReads u s p h e x g r
unfolding spec.settled spec.state_from spec.stayed spec.after_name spec.named spec.labelled
subject_reads (NamedNode f v) s p h e x g r =
    (iri_term g.store (name_iri e f v.text v.cut), p, h, record x { iri = name_iri e f v.text v.cut }, record g { store = with_name g.store (name_iri e f v.text v.cut) }, refl, λ k. refl)
subject_reads (LabelledNode v) s p h e x g r = (Blank (label_number g.blanks v.text), p, h, x, record g { blanks = with_label g.blanks v.text }, refl, λ k. refl)
subject_reads (AnonymousNode at) s p h e x g r = (
  node g,
  p,
  h,
  x,
  with_node g,
  ap (λ d. read_on d (tokens.Token.CloseSquare ∷ r)) (square_opened s p h e x g at) ∙ ap (λ d. read_on d r) (square_empty (node g) p h e x (with_node g)),
  λ k. refl,
)
subject_reads (CollectionNode at NoObjects end) s p h e x g r = (
  iri_term g.store rdf_nil,
  p,
  iri_term g.store rdf_nil,
  record x { link = link.Subject },
  record g { store = with_name g.store rdf_nil },
  ap (λ d. read_on d (tokens.Token.CloseRound end ∷ r)) (round_opened s p h e x g at) ∙ ap (λ d. read_on d r) (round_empty s p h e x g end),
  λ k. refl,
)
subject_reads (CollectionNode at (MoreObjects o xs) end) s p h e x g r =
    let x1 = record x { link = link.Subject } in
    let c1 = begun_round s p (node g) (iri_term g.store rdf_first) (node g) in
    let g1 = record (with_node g) { store = with_name g.store rdf_first } in
    let r1 = items xs (tokens.Token.CloseRound end ∷ r) in
    let a = object_reads o state.AfterObject (begun_round s p s p h) c1 e x1 g g1 r1 refl (λ i. cell_begins s p h e (record x { iri = i }) g (object_at o)) (goes_items xs end r) in
    let g2 = object_says o e c1.subject c1.predicate g1 in
    let c2 = begun_round s p (node g) (iri_term g2.store rdf_rest) (node g) in
    let g3 = record g2 { store = with_name g2.store rdf_rest } in
    let b = items_reads xs c2 e (record a.0 { link = link.Rest }) g3 None end r refl refl in (
      node g,
      p,
      node g,
      b.0,
      items_say xs e c2.subject c2.predicate None end g3,
      ap (λ d. read_on d (object o r1)) (round_opened s p h e x g at) ∙ a.1 ∙ ap (λ d. read_on d r1) (ended_in c1 e a.0 g2 refl) ∙ b.3
          ∙ ap (λ d. read_on d r) (round_closed s p b.1 b.2 (node g) e b.0 (items_say xs e c2.subject c2.predicate None end g3)),
      λ k. refl,
    )

directive_reads : (d : Directive) (s p h : Term) (e : EnvironmentState) (x : Left) (g : Graph) (r : List Token)
    → (y : Left) × (read_on (doc state.Statement (outside s p h) None e x g) (directive d r) ≡ read_on (doc state.Statement (outside s p h) None (directed d e) y g) r)
unfolding spec.settled spec.state_from spec.stayed spec.tagged spec.after_name spec.directed
directive_reads (AtPrefix w n i) s p h e x g r = (record x { iri = reference_iri e i.text }, refl)
directive_reads (AtBase w i) s p h e x g r = (record x { iri = reference_iri e i.text }, refl)
directive_reads (PlainPrefix n i) s p h e x g r = (record x { iri = reference_iri e i.text }, refl)
directive_reads (PlainBase i) s p h e x g r = (record x { iri = reference_iri e i.text }, refl)

abbrev DocumentReads : Document → Term → Term → Term → EnvironmentState → Left → Graph → Type 0
DocumentReads d s p h e x g = (a : Term) × (b : Term) × (m : Term) × (v : EnvironmentState) × (y : Left)
    × (read_on (doc state.Statement (outside s p h) None e x g) (document d) ≡ doc state.Statement (outside a b m) None v y (document_says d e g))

triples_read : (u : Subject) (ps : Pairs) (d : Document) (s p h : Term) (e : EnvironmentState) (x : Left) (g : Graph) → SubjectReads u s p h e x g (pairs ps (tokens.Token.Dot ∷ document d))
    → ((a b m : Term) (y : Left) (i : Graph) → DocumentReads d a b m e y i) → DocumentReads (Triples u ps d) s p h e x g
triples_read u ps d s p h e x g a ih =
    let r = tokens.Token.Dot ∷ document d in
    let c = pairs_reads ps state.Verb (outside a.0 a.1 a.2) e a.3 a.4 r tt refl refl in
    let g1 = pairs_say ps e a.0 a.4 in
    let b = ih a.0 c.1 a.2 c.0 g1 in (
      b.0,
      b.1,
      b.2,
      b.3,
      b.4,
      a.5 ∙ c.4
          ∙ ap (λ z. read_on z (document d)) (dot c.2 a.0 c.1 a.2 e c.0 g1 c.3) ∙ b.5
          ∙ ap (λ z. doc state.Statement (outside b.0 b.1 b.2) None b.3 b.4 (document_says d e z)) (sym (a.6 (λ n i. pairs_say ps e n i))),
    )

document_reads : (d : Document) (s p h : Term) (e : EnvironmentState) (x : Left) (g : Graph)
    → (a : Term) × (b : Term) × (m : Term) × (v : EnvironmentState) × (y : Left)
    × (read_on (doc state.Statement (outside s p h) None e x g) (document d) ≡ doc state.Statement (outside a b m) None v y (document_says d e g))
document_reads NoMore s p h e x g = (s, p, h, e, x, refl)
document_reads (Direct i d) s p h e x g =
    let a = directive_reads i s p h e x g (document d) in
    let b = document_reads d s p h (directed i e) a.0 g in
    (b.0, b.1, b.2, b.3, b.4, a.1 ∙ b.5)
document_reads (Triples u ps d) s p h e x g = triples_read u ps d s p h e x g (subject_reads u s p h e x g (pairs ps (tokens.Token.Dot ∷ document d))) (λ c k v y i. document_reads d c k v e y i)
document_reads (Node at ps d) s p h e x g =
    let n = node g in
    let r = tokens.Token.Dot ∷ document d in
    let a = pairs_reads ps state.VerbOrClose (begun_square n p p h) e x (with_node g) (tokens.Token.CloseSquare ∷ r) tt refl refl in
    let g1 = pairs_say ps e n (with_node g) in
    let b = document_reads d n p h e a.0 g1 in (
      b.0,
      b.1,
      b.2,
      b.3,
      b.4,
      ap (λ z. read_on z (pairs ps (tokens.Token.CloseSquare ∷ r))) (square_opened s p h e x g at) ∙ a.4
          ∙ ap (λ z. read_on z r) (square_closed a.2 n a.1 p h e a.0 g1 a.3)
          ∙ ap (λ z. read_on z (document d)) (node_dot n p h e a.0 g1) ∙ b.5,
    )
document_reads (NodePairs at ps qs d) s p h e x g =
    let n = node g in
    let r = tokens.Token.Dot ∷ document d in
    let r1 = pairs qs r in
    let a = pairs_reads ps state.VerbOrClose (begun_square n p p h) e x (with_node g) (tokens.Token.CloseSquare ∷ r1) tt refl refl in
    let g1 = pairs_say ps e n (with_node g) in
    let c = pairs_reads qs state.VerbOrDot (outside n p h) e a.0 g1 r tt refl refl in
    let g2 = pairs_say qs e n g1 in
    let b = document_reads d n c.1 h e c.0 g2 in (
      b.0,
      b.1,
      b.2,
      b.3,
      b.4,
      ap (λ z. read_on z (pairs ps (tokens.Token.CloseSquare ∷ r1))) (square_opened s p h e x g at) ∙ a.4
          ∙ ap (λ z. read_on z r1) (square_closed a.2 n a.1 p h e a.0 g1 a.3)
          ∙ c.4
          ∙ ap (λ z. read_on z (document d)) (dot c.2 n c.1 h e c.0 g2 c.3) ∙ b.5,
    )

pub document_store : (base : Option (List ℕ)) (d : Document) → (read_from base (document d)).store ≡ (document_says d (environment base) no_graph).store
document_store base d =
    let a = document_reads d (Blank 0) (Blank 0) (Blank 0) (environment base) (record { iri = []; at = 0; link = link.Rest }) no_graph in
    ap (λ z. z.store) a.5
