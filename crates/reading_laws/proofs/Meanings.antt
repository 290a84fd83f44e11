-- The reader says what the tree of a document means.
use Rattle.std.proofs.Common.{ℕ, List, [], ◌∷◌, ◌≡◌, refl, ap, ◌∙◌}
use Rattle.std.specs.Prelude.{Bool, true, false, cond, Option, None, Some, ⊤}
use Rattle.std.proofs.lemmas.Bool.{true≢false, false≢true}
use Rattle.rdf_terms.specs.declared.terms.Term.{Term}
use Rattle.rdf_terms.specs.declared.terms.Term.TheVariants.{Blank}
use Rattle.turtle_grammar.specs.declared.terminals.Terminal.{Terminal}
use Rattle.turtle_grammar.specs.declared.terminals.Terminal.TheVariants as terminal
use Rattle.turtle_grammar.specs.declared.states.Frame.{Frame}
use Rattle.turtle_grammar.specs.declared.states.Frame.TheVariants.{SubjectSquare, SubjectRound, ObjectSquare, ObjectRound}
use Rattle.turtle_grammar.specs.declared.states.State.{State}
use Rattle.turtle_grammar.specs.declared.states.State.TheVariants as state
use Rattle.turtle_grammar.specs.declared.states.Step.{Step}
use Rattle.turtle_grammar.specs.declared.states.Step.TheVariants.{Stay}
use Rattle.turtle_grammar.specs.Machine.{next, object_step, after_step, opened_step}
use Rattle.turtle_grammar.specs.Tokens.{Value, Token, terminal_of}
use Rattle.turtle_grammar.specs.Tokens as tokens
use Rattle.turtle_grammar.specs.Grammar.{Verb, Object, Objects, Further, verb, object, items, commas, further}
use Rattle.turtle_grammar.specs.Grammar.Verb.{Iri, IsA}
use Rattle.turtle_grammar.specs.Grammar.Object.{Named, Labelled, Anonymous, Collection, Nested, Number, Plain, Tagged, Typed}
use Rattle.turtle_grammar.specs.Grammar.Objects.{NoObjects, MoreObjects}
use Rattle.turtle_grammar.specs.Grammar.Further.{NoFurther, Bare, Full}
use Rattle.turtle_documents.specs.declared.document.Open.{Open}
use Rattle.turtle_documents.specs.declared.document.Link.{Link}
use Rattle.turtle_documents.specs.declared.document.Link.TheVariants as link
use Rattle.rdf_vocabulary.specs.Iris.{rdf_first, rdf_rest}
use Rattle.turtle_environments.specs.Environments.{EnvironmentState}
use Rattle.turtle_environments.specs.Storing.{iri_term, with_name}
use Rattle.turtle_documents.specs.Documents as spec
use Rattle.turtle_documents.specs.Documents.{DocumentState, is_round, top_frame, is_plain, after_token, at_state, ended, begun, popped, stepped, name_iri, plain_literal}
use Rattle.reading_laws.specs.Meaning.{Graph, node, with_node, with_triple, place}

-- where a document is read, and what is left of earlier tokens
pub record Place : Type 0 where
  pub stack : List Open
  pub subject : Term
  pub predicate : Term
  pub head : Term

pub record Left : Type 0 where
  pub iri : List ℕ
  pub at : ℕ
  pub link : Link

abbrev pub doc : State → Place → Option (List ℕ) → EnvironmentState → Left → Graph → DocumentState
doc q c str e x g = record {
  state = q;
  stack = c.stack;
  subject = c.subject;
  predicate = c.predicate;
  head = c.head;
  link = x.link;
  string = str;
  string_at = x.at;
  prefix = None;
  iri = x.iri;
  environment = e;
  blanks = g.blanks;
  store = g.store;
}

abbrev pub is_in : Place → Bool
is_in c = is_round (top_frame c.stack)

-- behind an object
abbrev pub finished : Place → EnvironmentState → Left → Graph → DocumentState
finished c e x g = at_state (ended (doc state.AfterObject c None e x g)) state.AfterObject

-- tokens before which a string stands alone
abbrev pub Goes : List Token → Type 0
Goes [] = ⊥
Goes (t ∷ r) = is_plain state.AfterText (terminal_of t) ≡ true

-- where an object may begin, a verb, or what follows an object
abbrev pub IsObject : State → Bool → Type 0
IsObject state.Object b = ⊤
IsObject state.AfterObject b = b ≡ true
IsObject _ b = ⊥

abbrev pub IsVerb : State → Type 0
IsVerb state.Verb = ⊤
IsVerb state.VerbOrDot = ⊤
IsVerb state.VerbOrClose = ⊤
IsVerb state.VerbOrMore = ⊤
IsVerb _ = ⊥

abbrev pub IsAfter : State → Type 0
IsAfter state.AfterObject = ⊤
IsAfter state.VerbOrMore = ⊤
IsAfter _ = ⊥

pub goes_object : (x : Object) (r : List Token) → Goes (object x r)
goes_object (Named f v) r = refl
goes_object (Labelled v) r = refl
goes_object (Anonymous at) r = refl
goes_object (Collection at xs end) r = refl
goes_object (Nested at q) r = refl
goes_object (Number d v) r = refl
goes_object (Plain v) r = refl
goes_object (Tagged v w t) r = refl
goes_object (Typed v f t) r = refl

pub goes_items : (xs : Objects) (end : ℕ) (r : List Token) → Goes (items xs (tokens.Token.CloseRound end ∷ r))
goes_items NoObjects end r = refl
goes_items (MoreObjects x xs) end r = goes_object x (items xs (tokens.Token.CloseRound end ∷ r))

pub goes_commas : (xs : Objects) (r : List Token) → Goes r → Goes (commas xs r)
goes_commas NoObjects r h = h
goes_commas (MoreObjects x xs) r h = refl

pub goes_further : (f : Further) (r : List Token) → Goes r → Goes (further f r)
goes_further NoFurther r h = h
goes_further (Bare f) r h = refl
goes_further (Full v x xs f) r h = refl

-- steps of the machine in a collection and outside
in_object : (o : Option Frame) (t : Terminal) → is_round o ≡ true → (t ≡ terminal.CloseRound → ⊥) → after_step o t ≡ object_step t
in_object (Some SubjectRound) terminal.CloseRound h n = absurd (n refl)
in_object (Some SubjectRound) t h n = refl
in_object (Some ObjectRound) terminal.CloseRound h n = absurd (n refl)
in_object (Some ObjectRound) t h n = refl
in_object None t h n = absurd (false≢true h)
in_object (Some SubjectSquare) t h n = absurd (false≢true h)
in_object (Some ObjectSquare) t h n = absurd (false≢true h)

pub out_comma : (o : Option Frame) → is_round o ≡ false → after_step o terminal.Comma ≡ Stay state.Object
out_comma None h = refl
out_comma (Some SubjectSquare) h = refl
out_comma (Some ObjectSquare) h = refl
out_comma (Some SubjectRound) h = absurd (true≢false h)
out_comma (Some ObjectRound) h = absurd (true≢false h)

out_semicolon : (o : Option Frame) → is_round o ≡ false → after_step o terminal.Semicolon ≡ Stay state.VerbOrMore
out_semicolon None h = refl
out_semicolon (Some SubjectSquare) h = refl
out_semicolon (Some ObjectSquare) h = refl
out_semicolon (Some SubjectRound) h = absurd (true≢false h)
out_semicolon (Some ObjectRound) h = absurd (true≢false h)

opened_verb : (o : Option Frame) (v : Verb) → opened_step o (terminal_of (verb v)) ≡ Stay state.Object
opened_verb None (Iri f v) = refl
opened_verb (Some SubjectSquare) (Iri f v) = refl
opened_verb (Some ObjectSquare) (Iri f v) = refl
opened_verb (Some SubjectRound) (Iri f v) = refl
opened_verb (Some ObjectRound) (Iri f v) = refl
opened_verb None IsA = refl
opened_verb (Some SubjectSquare) IsA = refl
opened_verb (Some ObjectSquare) IsA = refl
opened_verb (Some SubjectRound) IsA = refl
opened_verb (Some ObjectRound) IsA = refl

pub verb_next : (q : State) (o : Option Frame) (v : Verb) → IsVerb q → next q o (terminal_of (verb v)) ≡ Stay state.Object
verb_next state.Verb o (Iri f v) h = refl
verb_next state.Verb o IsA h = refl
verb_next state.VerbOrDot o (Iri f v) h = refl
verb_next state.VerbOrDot o IsA h = refl
verb_next state.VerbOrClose o v h = opened_verb o v
verb_next state.VerbOrMore o (Iri f v) h = refl
verb_next state.VerbOrMore o IsA h = refl
verb_next q o v h = absurd h

pub semicolon_next : (q : State) (o : Option Frame) → IsAfter q → is_round o ≡ false → next q o terminal.Semicolon ≡ Stay state.VerbOrMore
semicolon_next state.AfterObject o h r = out_semicolon o r
semicolon_next state.VerbOrMore o h r = out_semicolon o r
semicolon_next q o h r = absurd h

pub object_next : (q : State) (o : Option Frame) (t : Terminal) → IsObject q (is_round o) → (t ≡ terminal.CloseRound → ⊥) → next q o t ≡ object_step t
object_next state.Object o t h n = refl
object_next state.AfterObject o t h n = in_object o t h n
object_next q o t h n = absurd h

-- no string stands before a token at these places
abbrev pub no_string : State → Bool
no_string state.AfterText = false
no_string _ = true

pub plain_none : (q : State) (t : Terminal) → no_string q ≡ true → is_plain q t ≡ false
plain_none state.AfterText t h = absurd (false≢true h)
plain_none q t h = refl

-- a step, where the machine's is known and no string stands before it
pub step_is : (q : State) (d : DocumentState) (t : Token) (s : Step) → no_string d.state ≡ true → d.state ≡ q → next q (top_frame d.stack) (terminal_of t) ≡ s → after_token d t ≡ stepped s q d t
unfolding spec.settled spec.state_from
step_is q d t s n e h =
    ap (λ b. spec.state_from (cond b (spec.plain_by d.string d) d) t) (plain_none d.state (terminal_of t) n)
    ∙ ap (λ r. stepped (next r (top_frame d.stack) (terminal_of t)) r d t) e
    ∙ ap (λ r. stepped r q d t) h

-- objects and items behind which nothing follows in a collection
pub ended_out : (c : Place) (e : EnvironmentState) (x : Left) (g : Graph) → is_in c ≡ false → finished c e x g ≡ doc state.AfterObject c None e x g
unfolding spec.ended
ended_out c e x g h =
    let d = doc state.AfterObject c None e x g in
    ap (λ b. at_state (cond b (spec.with_predicate (record d { link = link.Rest }) rdf_rest) d) state.AfterObject) h

pub begun_out : (q : State) (c : Place) (e : EnvironmentState) (x : Left) (g : Graph) (at : ℕ) → is_in c ≡ false → begun (doc q c None e x g) at ≡ doc q c None e x g
unfolding spec.begun
begun_out q c e x g at h =
    let d = doc q c None e x g in
    ap (λ b. cond b (spec.with_predicate (spec.with_subject (spec.linked (spec.with_node d) (Blank d.blanks.count) at) (Blank d.blanks.count)) rdf_first) d) h

any_by : (b : Bool) (q : State) (d : DocumentState) → at_state (cond b (spec.with_predicate (record (at_state d q) { link = link.Rest }) rdf_rest) (at_state d q)) state.AfterObject
    ≡ at_state (cond b (spec.with_predicate (record d { link = link.Rest }) rdf_rest) d) state.AfterObject
any_by true q d = refl
any_by false q d = refl

pub any_state : (q : State) (c : Place) (e : EnvironmentState) (x : Left) (g : Graph) → at_state (ended (doc q c None e x g)) state.AfterObject ≡ finished c e x g
unfolding spec.ended
any_state q c e x g = any_by (is_in c) q (doc state.AfterObject c None e x g)

pub ended_in : (c : Place) (e : EnvironmentState) (x : Left) (g : Graph) → is_in c ≡ true
    → finished c e x g ≡ doc state.AfterObject (record c { predicate = iri_term g.store rdf_rest }) None e (record x { link = link.Rest }) (record g { store = with_name g.store rdf_rest })
unfolding spec.ended
ended_in c e x g h =
    let d = doc state.AfterObject c None e x g in
    ap (λ b. at_state (cond b (spec.with_predicate (record d { link = link.Rest }) rdf_rest) d) state.AfterObject) h

-- what leads to a cell
abbrev pub link_of : Option ℕ → Link
link_of None = link.Rest
link_of (Some n) = link.Object n

abbrev pub cell_place : Place → Graph → Graph → Place
cell_place c g h = record c { subject = node g; predicate = iri_term h.store rdf_first }

abbrev pub cell_graph : Place → Option ℕ → ℕ → Graph → Graph
cell_graph c first at g = with_triple (with_node g) c.subject c.predicate (node g) (place first at)

cell_by : (c : Place) (e : EnvironmentState) (x : Left) (g : Graph) (at : ℕ) (first : Option ℕ)
    → spec.with_predicate (spec.with_subject (spec.linked_by (link_of first) (spec.with_node (doc state.AfterObject c None e x g)) (Blank g.blanks.count) at) (Blank g.blanks.count)) rdf_first
    ≡ doc state.AfterObject (cell_place c g (cell_graph c first at g)) None e x (record (cell_graph c first at g) { store = with_name (cell_graph c first at g).store rdf_first })
cell_by c e x g at None = refl
cell_by c e x g at (Some n) = refl

pub begun_in : (c : Place) (e : EnvironmentState) (x : Left) (g : Graph) (first : Option ℕ) (at : ℕ) → is_in c ≡ true → x.link ≡ link_of first
    → begun (doc state.AfterObject c None e x g) at
    ≡ doc state.AfterObject (cell_place c g (cell_graph c first at g)) None e x (record (cell_graph c first at g) { store = with_name (cell_graph c first at g).store rdf_first })
unfolding spec.begun spec.linked
begun_in c e x g first at h l =
    let d = doc state.AfterObject c None e x g in
    ap (λ b. cond b (spec.with_predicate (spec.with_subject (spec.linked_by d.link (spec.with_node d) (Blank d.blanks.count) at) (Blank d.blanks.count)) rdf_first) d) h
    ∙ ap (λ k. spec.with_predicate (spec.with_subject (spec.linked_by k (spec.with_node d) (Blank d.blanks.count) at) (Blank d.blanks.count)) rdf_first) l
    ∙ cell_by c e x g at first
