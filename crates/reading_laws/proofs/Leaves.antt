-- What the reader does at the tokens of objects and verbs.
use Rattle.std.proofs.Common.{ℕ, List, [], ◌∷◌, ◌≡◌, refl, ap, sym, ◌∙◌}
use Rattle.std.specs.Prelude.{Bool, true, cond, Option, None, Some}
use Rattle.std.proofs.lemmas.Bool.{false≢true}
use Rattle.rdf_terms.specs.declared.terms.Literal.{Literal}
use Rattle.rdf_terms.specs.declared.terms.Term.{Term}
use Rattle.turtle_grammar.specs.declared.terminals.NameForm.{NameForm}
use Rattle.turtle_grammar.specs.declared.terminals.AtWord.{AtWord}
use Rattle.turtle_grammar.specs.declared.terminals.Terminal.TheVariants as terminal
use Rattle.turtle_grammar.specs.declared.states.Frame.{Frame}
use Rattle.turtle_grammar.specs.declared.states.Frame.TheVariants.{SubjectSquare, SubjectRound, ObjectSquare, ObjectRound}
use Rattle.turtle_grammar.specs.declared.states.State.{State}
use Rattle.turtle_grammar.specs.declared.states.State.TheVariants as state
use Rattle.turtle_grammar.specs.declared.states.Step.{Step}
use Rattle.turtle_grammar.specs.declared.states.Step.TheVariants.{Stay, Push, Pop}
use Rattle.turtle_grammar.specs.Machine.{next, after_step}
use Rattle.turtle_grammar.specs.Tokens.{Value, Token, terminal_of}
use Rattle.turtle_grammar.specs.Tokens as tokens
use Rattle.turtle_grammar.specs.Grammar.{Verb, verb}
use Rattle.turtle_grammar.specs.Grammar.Verb.{Iri, IsA}
use Rattle.turtle_documents.specs.declared.document.Link.TheVariants as link
use Rattle.rdf_vocabulary.specs.Iris.{rdf_type, rdf_nil, xsd_string}
use Rattle.turtle_environments.specs.Environments.{EnvironmentState}
use Rattle.turtle_environments.specs.Storing.{iri_term, with_name}
use Rattle.turtle_documents.specs.Documents as spec
use Rattle.turtle_documents.specs.Documents.{DocumentState, is_round, top_frame, is_plain, after_token, at_state, ended, begun, popped, name_iri, plain_literal, lowercase}
use Rattle.reading_laws.specs.Refusals.{read_on}
use Rattle.reading_laws.specs.Meaning.{Graph, node, with_node, with_triple, with_iri, with_literal, with_labelled, tagged_literal, verb_iri, place}
use Rattle.reading_laws.proofs.Meanings.{Place, Left, doc, is_in, finished, Goes, IsObject, IsVerb, IsAfter, no_string, step_is, object_next, verb_next, any_state, link_of}

-- an object begins here and takes a cell, where it is an item
abbrev pub Begins : State → Place → Place → EnvironmentState → Left → Graph → Graph → ℕ → Type 0
Begins q c0 c e x g0 g at = (i : List ℕ) → begun (doc q c0 None e (record x { iri = i }) g0) at ≡ doc q c None e (record x { iri = i }) g

object_no : (q : State) (b : Bool) → IsObject q b → no_string q ≡ true
object_no state.Object b h = refl
object_no state.AfterObject b h = refl
object_no q b h = absurd h

object_step_is : (q : State) (c : Place) (e : EnvironmentState) (x : Left) (g : Graph) (t : Token) (s : Step) → IsObject q (is_in c) → next q (top_frame c.stack) (terminal_of t) ≡ s
    → after_token (doc q c None e x g) t ≡ spec.stepped s q (doc q c None e x g) t
object_step_is q c e x g t s h n = step_is q (doc q c None e x g) t s (object_no q (is_in c) h) refl n

-- a name
stay_named : (q : State) (b : Bool) (d : DocumentState) (f : NameForm) (v : Value) → IsObject q b
    → at_state (spec.stayed q d (tokens.Token.Name f v)) state.AfterObject ≡ at_state (spec.object_named (begun (spec.with_iri d (name_iri d.environment f v.text v.cut)) v.at) v.at) state.AfterObject
unfolding spec.stayed spec.after_name spec.named
stay_named state.Object b d f v h = refl
stay_named state.AfterObject b d f v h = refl
stay_named q b d f v h = absurd h

put_named : (q : State) (c : Place) (e : EnvironmentState) (x : Left) (g : Graph) (at : ℕ)
    → at_state (spec.object_named (doc q c None e x g) at) state.AfterObject ≡ finished c e x (with_iri g c.subject c.predicate x.iri at)
unfolding spec.object_named
put_named q c e x g at = any_state q c e x (with_iri g c.subject c.predicate x.iri at)

pub leaf_named : (q : State) (c0 c : Place) (e : EnvironmentState) (x : Left) (g0 g : Graph) (f : NameForm) (v : Value) → IsObject q (is_in c0) → Begins q c0 c e x g0 g v.at
    → after_token (doc q c0 None e x g0) (tokens.Token.Name f v)
    ≡ finished c e (record x { iri = name_iri e f v.text v.cut }) (with_iri g c.subject c.predicate (name_iri e f v.text v.cut) v.at)
leaf_named q c0 c e x g0 g f v h b =
    object_step_is q c0 e x g0 (tokens.Token.Name f v) (Stay state.AfterObject) h (object_next q (top_frame c0.stack) (terminal.Name f) h (λ n. cc n))
    ∙ stay_named q (is_in c0) (doc q c0 None e x g0) f v h
    ∙ ap (λ d. at_state (spec.object_named d v.at) state.AfterObject) (b (name_iri e f v.text v.cut))
    ∙ put_named q c e (record x { iri = name_iri e f v.text v.cut }) g v.at

-- a labelled blank node
stay_labelled : (q : State) (b : Bool) (d : DocumentState) (v : Value) → IsObject q b
    → at_state (spec.stayed q d (tokens.Token.Blank v)) state.AfterObject ≡ at_state (spec.labelled_object (begun d v.at) v.text v.at) state.AfterObject
unfolding spec.stayed spec.labelled
stay_labelled state.Object b d v h = refl
stay_labelled state.AfterObject b d v h = refl
stay_labelled q b d v h = absurd h

put_labelled : (q : State) (c : Place) (e : EnvironmentState) (x : Left) (g : Graph) (label : List ℕ) (at : ℕ)
    → at_state (spec.labelled_object (doc q c None e x g) label at) state.AfterObject ≡ finished c e x (with_labelled g c.subject c.predicate label at)
unfolding spec.labelled_object
put_labelled q c e x g label at = any_state q c e x (with_labelled g c.subject c.predicate label at)

pub leaf_labelled : (q : State) (c0 c : Place) (e : EnvironmentState) (x : Left) (g0 g : Graph) (v : Value) → IsObject q (is_in c0) → Begins q c0 c e x g0 g v.at
    → after_token (doc q c0 None e x g0) (tokens.Token.Blank v) ≡ finished c e x (with_labelled g c.subject c.predicate v.text v.at)
leaf_labelled q c0 c e x g0 g v h b =
    object_step_is q c0 e x g0 (tokens.Token.Blank v) (Stay state.AfterObject) h (object_next q (top_frame c0.stack) terminal.Blank h (λ n. cc n))
    ∙ stay_labelled q (is_in c0) (doc q c0 None e x g0) v h
    ∙ ap (λ d. at_state (spec.labelled_object d v.text v.at) state.AfterObject) (b x.iri)
    ∙ put_labelled q c e x g v.text v.at

-- a literal of one token
put_literal : (q : State) (c : Place) (e : EnvironmentState) (x : Left) (g : Graph) (v : Literal) (at : ℕ)
    → at_state (spec.with_literal (doc q c None e x g) v at) state.AfterObject ≡ finished c e x (with_literal g c.subject c.predicate v at)
unfolding spec.with_literal
put_literal q c e x g v at = any_state q c e x (with_literal g c.subject c.predicate v at)

stay_number : (q : State) (d : DocumentState) (datatype : List ℕ) (v : Value) → spec.stayed q d (tokens.Token.Literal datatype v) ≡ spec.with_literal (begun d v.at) (plain_literal v.text datatype) v.at
unfolding spec.stayed
stay_number q d datatype v = refl

pub leaf_number : (q : State) (c0 c : Place) (e : EnvironmentState) (x : Left) (g0 g : Graph) (datatype : List ℕ) (v : Value) → IsObject q (is_in c0) → Begins q c0 c e x g0 g v.at
    → after_token (doc q c0 None e x g0) (tokens.Token.Literal datatype v) ≡ finished c e x (with_literal g c.subject c.predicate (plain_literal v.text datatype) v.at)
leaf_number q c0 c e x g0 g datatype v h b =
    object_step_is q c0 e x g0 (tokens.Token.Literal datatype v) (Stay state.AfterObject) h (object_next q (top_frame c0.stack) terminal.Literal h (λ n. cc n))
    ∙ ap (λ d. at_state d state.AfterObject) (stay_number q (doc q c0 None e x g0) datatype v)
    ∙ ap (λ d. at_state (spec.with_literal d (plain_literal v.text datatype) v.at) state.AfterObject) (b x.iri)
    ∙ put_literal q c e x g (plain_literal v.text datatype) v.at

-- a string, and what stands behind it
stay_string : (q : State) (d : DocumentState) (v : Value) → spec.stayed q d (tokens.Token.Str v) ≡ spec.quoted (begun d v.at) v.text v.at
unfolding spec.stayed
stay_string q d v = refl

pub leaf_string : (q : State) (c0 c : Place) (e : EnvironmentState) (x : Left) (g0 g : Graph) (v : Value) → IsObject q (is_in c0) → Begins q c0 c e x g0 g v.at
    → after_token (doc q c0 None e x g0) (tokens.Token.Str v) ≡ doc state.AfterText c (Some v.text) e (record x { at = v.at }) g
leaf_string q c0 c e x g0 g v h b =
    object_step_is q c0 e x g0 (tokens.Token.Str v) (Stay state.AfterText) h (object_next q (top_frame c0.stack) terminal.Str h (λ n. cc n))
    ∙ ap (λ d. at_state d state.AfterText) (stay_string q (doc q c0 None e x g0) v)
    ∙ ap (λ d. at_state (spec.quoted d v.text v.at) state.AfterText) (b x.iri)

pub leaf_tagged : (c : Place) (text : List ℕ) (e : EnvironmentState) (x : Left) (g : Graph) (w : AtWord) (t : Value)
    → after_token (doc state.AfterText c (Some text) e x g) (tokens.Token.At w t) ≡ finished c e (record x { iri = lowercase t.text }) (with_literal g c.subject c.predicate (tagged_literal text t.text) x.at)
unfolding spec.settled spec.state_from spec.stayed spec.tagged
leaf_tagged c text e x g w t = put_literal state.AfterText c e (record x { iri = lowercase t.text }) g (tagged_literal text t.text) x.at

pub leaf_carets : (c : Place) (text : List ℕ) (e : EnvironmentState) (x : Left) (g : Graph)
    → after_token (doc state.AfterText c (Some text) e x g) tokens.Token.Carets ≡ doc state.Datatype c (Some text) e x g
unfolding spec.settled spec.state_from spec.stayed
leaf_carets c text e x g = refl

pub leaf_typed : (c : Place) (text : List ℕ) (e : EnvironmentState) (x : Left) (g : Graph) (f : NameForm) (t : Value)
    → after_token (doc state.Datatype c (Some text) e x g) (tokens.Token.Name f t)
    ≡ finished c e (record x { iri = name_iri e f t.text t.cut }) (with_literal g c.subject c.predicate (plain_literal text (name_iri e f t.text t.cut)) x.at)
unfolding spec.settled spec.state_from spec.stayed spec.after_name spec.named spec.typed
leaf_typed c text e x g f t = put_literal state.Datatype c e (record x { iri = name_iri e f t.text t.cut }) g (plain_literal text (name_iri e f t.text t.cut)) x.at

finished_step : (c : Place) (e : EnvironmentState) (x : Left) (g : Graph) (t : Token) → after_token (finished c e x g) t ≡ spec.state_from (finished c e x g) t
unfolding spec.settled
finished_step c e x g t = refl

plain_step : (c : Place) (text : List ℕ) (e : EnvironmentState) (x : Left) (g : Graph) (t : Token) → is_plain state.AfterText (terminal_of t) ≡ true
    → after_token (doc state.AfterText c (Some text) e x g) t ≡ spec.state_from (finished c e x (with_literal g c.subject c.predicate (plain_literal text xsd_string) x.at)) t
unfolding spec.settled
plain_step c text e x g t h =
    let d = doc state.AfterText c (Some text) e x g in
    ap (λ b. spec.state_from (cond b (spec.plain_by d.string d) d) t) h
    ∙ ap (λ y. spec.state_from y t) (put_literal state.AfterText c e x g (plain_literal text xsd_string) x.at)

pub leaf_plain : (c : Place) (text : List ℕ) (e : EnvironmentState) (x : Left) (g : Graph) (r : List Token) → Goes r
    → read_on (doc state.AfterText c (Some text) e x g) r ≡ read_on (finished c e x (with_literal g c.subject c.predicate (plain_literal text xsd_string) x.at)) r
leaf_plain c text e x g [] h = absurd h
leaf_plain c text e x g (t ∷ r) h = ap (λ d. read_on d r) (plain_step c text e x g t h ∙ sym (finished_step c e x (with_literal g c.subject c.predicate (plain_literal text xsd_string) x.at) t))

-- a bracket
abbrev pub inside : Place → Frame → Term → Place
inside c f s = record c { stack = record { frame = f; subject = c.subject; predicate = c.predicate } ∷ c.stack; subject = s }

push_square : (q : State) (d : DocumentState) (at : ℕ) → spec.stepped (Push ObjectSquare state.VerbOrClose) q d (tokens.Token.OpenSquare at) ≡ at_state (spec.object_opened (begun d at) at) state.VerbOrClose
unfolding spec.opened
push_square q d at = refl

pub leaf_square : (q : State) (c0 c : Place) (e : EnvironmentState) (x : Left) (g0 g : Graph) (at : ℕ) → IsObject q (is_in c0) → Begins q c0 c e x g0 g at
    → after_token (doc q c0 None e x g0) (tokens.Token.OpenSquare at) ≡ doc state.VerbOrClose (inside c ObjectSquare (node g)) None e x (with_triple (with_node g) c.subject c.predicate (node g) at)
leaf_square q c0 c e x g0 g at h b =
    object_step_is q c0 e x g0 (tokens.Token.OpenSquare at) (Push ObjectSquare state.VerbOrClose) h (object_next q (top_frame c0.stack) terminal.OpenSquare h (λ n. cc n))
    ∙ push_square q (doc q c0 None e x g0) at
    ∙ ap (λ d. at_state (spec.object_opened d at) state.VerbOrClose) (b x.iri)

push_round : (q : State) (d : DocumentState) (at : ℕ) → spec.stepped (Push ObjectRound state.AfterObject) q d (tokens.Token.OpenRound at) ≡ at_state (record (spec.pushed (begun d at) ObjectRound) { link = link.Object at }) state.AfterObject
unfolding spec.opened
push_round q d at = refl

pub leaf_round : (q : State) (c0 c : Place) (e : EnvironmentState) (x : Left) (g0 g : Graph) (at : ℕ) → IsObject q (is_in c0) → Begins q c0 c e x g0 g at
    → after_token (doc q c0 None e x g0) (tokens.Token.OpenRound at) ≡ doc state.AfterObject (inside c ObjectRound c.subject) None e (record x { link = link.Object at }) g
leaf_round q c0 c e x g0 g at h b =
    object_step_is q c0 e x g0 (tokens.Token.OpenRound at) (Push ObjectRound state.AfterObject) h (object_next q (top_frame c0.stack) terminal.OpenRound h (λ n. cc n))
    ∙ push_round q (doc q c0 None e x g0) at
    ∙ ap (λ d. at_state (record (spec.pushed d ObjectRound) { link = link.Object at }) state.AfterObject) (b x.iri)

-- the end of a bracket
abbrev pub moved : Place → Term → Term → Place
moved c s p = record c { subject = s; predicate = p }

pub back_square : (q : State) (c : Place) (e : EnvironmentState) (y : Left) (g : Graph) (s p : Term)
    → at_state (popped (doc q (moved (inside c ObjectSquare s) s p) None e y g)) state.AfterObject ≡ finished c e y g
unfolding spec.popped
back_square q c e y g s p = any_state q c e y g

pub back_round : (c : Place) (e : EnvironmentState) (y : Left) (g : Graph) (s p : Term)
    → at_state (popped (doc state.AfterObject (moved (inside c ObjectRound c.subject) s p) None e y g)) state.AfterObject ≡ finished c e y g
unfolding spec.popped
back_round c e y g s p = refl

close_step : (q r : State) (d : DocumentState) → spec.stepped (Pop r) q d tokens.Token.CloseSquare ≡ at_state (popped d) r
close_step q r d = refl

pub close_anonymous : (c : Place) (e : EnvironmentState) (y : Left) (g : Graph) (s : Term)
    → after_token (doc state.VerbOrClose (inside c ObjectSquare s) None e y g) tokens.Token.CloseSquare ≡ finished c e y g
close_anonymous c e y g s =
    step_is state.VerbOrClose (doc state.VerbOrClose (inside c ObjectSquare s) None e y g) tokens.Token.CloseSquare (Pop state.AfterObject) refl refl refl
    ∙ back_square state.VerbOrClose c e y g s c.predicate

pub after_no : (q : State) → IsAfter q → no_string q ≡ true
after_no state.AfterObject h = refl
after_no state.VerbOrMore h = refl
after_no q h = absurd h

close_next : (q : State) → IsAfter q → next q (Some ObjectSquare) terminal.CloseSquare ≡ Pop state.AfterObject
close_next state.AfterObject h = refl
close_next state.VerbOrMore h = refl
close_next q h = absurd h

pub close_square : (q : State) (c : Place) (e : EnvironmentState) (y : Left) (g : Graph) (s p : Term) → IsAfter q
    → after_token (doc q (moved (inside c ObjectSquare s) s p) None e y g) tokens.Token.CloseSquare ≡ finished c e y g
close_square q c e y g s p h =
    step_is q (doc q (moved (inside c ObjectSquare s) s p) None e y g) tokens.Token.CloseSquare (Pop state.AfterObject) (after_no q h) refl (close_next q h)
    ∙ back_square q c e y g s p

-- the end of a collection
abbrev pub close_state : Option Frame → State
close_state (Some SubjectRound) = state.Verb
close_state _ = state.AfterObject

round_next : (o : Option Frame) → is_round o ≡ true → after_step o terminal.CloseRound ≡ Pop (close_state o)
round_next (Some SubjectRound) h = refl
round_next (Some ObjectRound) h = refl
round_next None h = absurd (false≢true h)
round_next (Some SubjectSquare) h = absurd (false≢true h)
round_next (Some ObjectSquare) h = absurd (false≢true h)

cells_by : (c : Place) (e : EnvironmentState) (x : Left) (g : Graph) (end : ℕ) (first : Option ℕ)
    → spec.linked_by (link_of first) (record (doc state.AfterObject c None e x g) { store = with_name g.store rdf_nil }) (iri_term g.store rdf_nil) end
    ≡ doc state.AfterObject c None e x (with_iri g c.subject c.predicate rdf_nil (place first end))
cells_by c e x g end None = refl
cells_by c e x g end (Some n) = refl

pub cells : (c : Place) (e : EnvironmentState) (x : Left) (g : Graph) (end : ℕ) (first : Option ℕ) → x.link ≡ link_of first
    → spec.closed_cells (doc state.AfterObject c None e x g) end ≡ doc state.AfterObject c None e x (with_iri g c.subject c.predicate rdf_nil (place first end))
unfolding spec.closed_cells spec.linked
cells c e x g end first l =
    ap (λ k. spec.linked_by k (record (doc state.AfterObject c None e x g) { store = with_name g.store rdf_nil }) (iri_term g.store rdf_nil) end) l
    ∙ cells_by c e x g end first

pub close_round : (c : Place) (e : EnvironmentState) (x : Left) (g : Graph) (end : ℕ) (first : Option ℕ) → is_in c ≡ true → x.link ≡ link_of first
    → after_token (doc state.AfterObject c None e x g) (tokens.Token.CloseRound end)
    ≡ at_state (popped (doc state.AfterObject c None e x (with_iri g c.subject c.predicate rdf_nil (place first end)))) (close_state (top_frame c.stack))
close_round c e x g end first h l =
    step_is state.AfterObject (doc state.AfterObject c None e x g) (tokens.Token.CloseRound end) (Pop (close_state (top_frame c.stack))) refl refl (round_next (top_frame c.stack) h)
    ∙ ap (λ d. at_state (popped d) (close_state (top_frame c.stack))) (cells c e x g end first l)

-- a verb
verb_no : (q : State) → IsVerb q → no_string q ≡ true
verb_no state.Verb h = refl
verb_no state.VerbOrDot h = refl
verb_no state.VerbOrClose h = refl
verb_no state.VerbOrMore h = refl
verb_no q h = absurd h

stay_verb : (q : State) (d : DocumentState) (f : NameForm) (v : Value) → IsVerb q
    → spec.stayed q d (tokens.Token.Name f v) ≡ spec.with_predicate (spec.with_iri d (name_iri d.environment f v.text v.cut)) (name_iri d.environment f v.text v.cut)
unfolding spec.stayed spec.after_name spec.named
stay_verb state.Verb d f v h = refl
stay_verb state.VerbOrDot d f v h = refl
stay_verb state.VerbOrClose d f v h = refl
stay_verb state.VerbOrMore d f v h = refl
stay_verb q d f v h = absurd h

stay_type : (q : State) (d : DocumentState) → spec.stayed q d tokens.Token.A ≡ spec.with_predicate d rdf_type
unfolding spec.stayed
stay_type q d = refl

abbrev pub left_by : Verb → EnvironmentState → Left → Left
left_by (Iri f v) e x = record x { iri = name_iri e f v.text v.cut }
left_by IsA e x = x

pub leaf_verb : (v : Verb) (q : State) (c : Place) (e : EnvironmentState) (x : Left) (g : Graph) → IsVerb q
    → after_token (doc q c None e x g) (verb v)
    ≡ doc state.Object (record c { predicate = iri_term g.store (verb_iri e v) }) None e (left_by v e x) (record g { store = with_name g.store (verb_iri e v) })
leaf_verb (Iri f v) q c e x g h =
    step_is q (doc q c None e x g) (tokens.Token.Name f v) (Stay state.Object) (verb_no q h) refl (verb_next q (top_frame c.stack) (Iri f v) h)
    ∙ ap (λ d. at_state d state.Object) (stay_verb q (doc q c None e x g) f v h)
leaf_verb IsA q c e x g h =
    step_is q (doc q c None e x g) tokens.Token.A (Stay state.Object) (verb_no q h) refl (verb_next q (top_frame c.stack) IsA h)
    ∙ ap (λ d. at_state d state.Object) (stay_type q (doc q c None e x g))
