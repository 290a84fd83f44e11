-- The reader goes where the grammar's machine goes.
use Rattle.std.proofs.Common.{ℕ, List, [], ◌∷◌, ◌≡◌, refl, ap, ap₂, sym, ◌∙◌}
use Rattle.std.specs.Prelude.{Bool, true, false, cond, Option, None, Some}
use Rattle.std.proofs.lemmas.Bool.{true≢false, false≢true}
use Rattle.rdf_terms.specs.declared.terms.Code.{Code}
use Rattle.rdf_terms.specs.declared.terms.Code.TheVariants.{G2}
use Rattle.turtle_grammar.specs.declared.terminals.NameForm.{NameForm}
use Rattle.turtle_grammar.specs.declared.terminals.NameForm.TheVariants as form
use Rattle.turtle_grammar.specs.declared.terminals.AtWord.TheVariants as word
use Rattle.turtle_grammar.specs.declared.terminals.Terminal.{Terminal}
use Rattle.turtle_grammar.specs.declared.terminals.Terminal.TheVariants as terminal
use Rattle.turtle_grammar.specs.declared.states.Frame.{Frame}
use Rattle.turtle_grammar.specs.declared.states.State.{State}
use Rattle.turtle_grammar.specs.declared.states.State.TheVariants as state
use Rattle.turtle_grammar.specs.declared.states.Step.{Step}
use Rattle.turtle_grammar.specs.declared.states.Step.TheVariants.{Stay, Push, Pop, Refused}
use Rattle.turtle_grammar.specs.Machine.{next, statement_step, form_step, verb_step, object_step, after_step, more_step, text_step}
use Rattle.turtle_grammar.specs.Tokens.{Token, terminal_of}
use Rattle.turtle_grammar.specs.Runs.{Config, top, advance, step}
use Rattle.turtle_documents.specs.declared.document.Open.{Open}
use Rattle.turtle_environments.specs.Words.{bracket_at}
use Rattle.turtle_documents.specs.Documents.{DocumentState, is_plain, plain_by, settled, top_frame, step_code, stepped, step_of, token_code, after_token, code_from, state_from}
use Rattle.reading_laws.proofs.Stacks.{frames, rest_of, plain_by_stack, settled_stack, stayed_stack, opened_frames, closed_stack}

-- no bracket is closed where none stands open
abbrev is_pop : Step → Bool
is_pop (Pop q) = true
is_pop _ = false

statement_pop : (t : Terminal) → is_pop (statement_step t) ≡ false
statement_pop (terminal.At word.Prefix) = refl
statement_pop (terminal.At word.Base) = refl
statement_pop (terminal.At word.Other) = refl
statement_pop _ = refl

form_pop : (t : Terminal) (f : NameForm) (q : State) → is_pop (form_step t f q) ≡ false
form_pop (terminal.Name form.Reference) form.Reference q = refl
form_pop (terminal.Name form.Reference) form.Namespace q = refl
form_pop (terminal.Name form.Reference) form.Local q = refl
form_pop (terminal.Name form.Namespace) form.Reference q = refl
form_pop (terminal.Name form.Namespace) form.Namespace q = refl
form_pop (terminal.Name form.Namespace) form.Local q = refl
form_pop (terminal.Name form.Local) form.Reference q = refl
form_pop (terminal.Name form.Local) form.Namespace q = refl
form_pop (terminal.Name form.Local) form.Local q = refl
form_pop _ f q = refl

verb_pop : (t : Terminal) → is_pop (verb_step t) ≡ false
verb_pop (terminal.Name f) = refl
verb_pop _ = refl

object_pop : (t : Terminal) → is_pop (object_step t) ≡ false
object_pop (terminal.Name f) = refl
object_pop _ = refl

after_pop : (t : Terminal) → is_pop (after_step None t) ≡ false
after_pop terminal.Comma = refl
after_pop _ = refl

more_pop : (t : Terminal) → is_pop (more_step None t) ≡ false
more_pop (terminal.Name f) = refl
more_pop terminal.A = refl
more_pop terminal.Comma = refl
more_pop t = after_pop t

text_pop : (t : Terminal) → is_pop (text_step None t) ≡ false
text_pop (terminal.At w) = refl
text_pop terminal.Carets = refl
text_pop t = after_pop t

next_pop : (q : State) (t : Terminal) → is_pop (next q None t) ≡ false
next_pop state.Statement t = statement_pop t
next_pop state.AtPrefixName t = form_pop t form.Namespace state.AtPrefixIri
next_pop state.PrefixName t = form_pop t form.Namespace state.PrefixIri
next_pop state.AtPrefixIri t = form_pop t form.Reference state.DirectiveDot
next_pop state.AtBaseIri t = form_pop t form.Reference state.DirectiveDot
next_pop state.PrefixIri t = form_pop t form.Reference state.Statement
next_pop state.BaseIri t = form_pop t form.Reference state.Statement
next_pop state.DirectiveDot terminal.Dot = refl
next_pop state.DirectiveDot _ = refl
next_pop state.Verb t = verb_pop t
next_pop state.VerbOrDot terminal.Dot = refl
next_pop state.VerbOrDot t = verb_pop t
next_pop state.VerbOrClose t = verb_pop t
next_pop state.VerbOrMore t = more_pop t
next_pop state.Object t = object_pop t
next_pop state.AfterObject t = after_pop t
next_pop state.AfterText t = text_pop t
next_pop state.Datatype (terminal.Name f) = refl
next_pop state.Datatype _ = refl

abbrev pub config : DocumentState → Config
config d = Some (d.state, frames d.stack)

pub tops : (st : List Open) → top (frames st) ≡ top_frame st
tops [] = refl
tops (o ∷ st) = refl

-- a string that is settled changes no step
plain_step : (q : State) (t : Terminal) (o : Option Frame) → is_plain q t ≡ true → next q o t ≡ next state.AfterObject o t
plain_step state.AfterText (terminal.At w) o h = absurd (false≢true h)
plain_step state.AfterText terminal.Carets o h = absurd (false≢true h)
plain_step state.AfterText t o h = refl
plain_step q t o h = absurd (false≢true h)

string_step : (s : Option (List ℕ)) (d : DocumentState) (t : Terminal) → is_plain d.state t ≡ true → next d.state (top_frame d.stack) t ≡ next (plain_by s d).state (top_frame (plain_by s d).stack) t
string_step None d t h = refl
string_step (Some text) d t h = plain_step d.state t (top_frame d.stack) h ∙ ap (λ st. next state.AfterObject (top_frame st) t) (sym (plain_by_stack (Some text) d))

plain_by_step : (b : Bool) (d : DocumentState) (t : Terminal) → is_plain d.state t ≡ b
    → next d.state (top_frame d.stack) t ≡ next (cond b (plain_by d.string d) d).state (top_frame (cond b (plain_by d.string d) d).stack) t
plain_by_step true d t h = string_step d.string d t h
plain_by_step false d t h = refl

pub settled_step : (d : DocumentState) (t : Terminal) → next d.state (top_frame d.stack) t ≡ next (settled d t).state (top_frame (settled d t).stack) t
unfolding settled
settled_step d t = plain_by_step (is_plain d.state t) d t refl

pops : (s : Step) (st : List Open) (d : DocumentState) (t : Token) (q r : State) → s ≡ Pop r → d.stack ≡ st → s ≡ next d.state (top_frame d.stack) (terminal_of t)
    → advance (Pop r) (frames d.stack) ≡ config (stepped (Pop r) q d t)
pops s [] d t q r e st n = absurd (true≢false (ap is_pop (sym e ∙ n ∙ ap (λ x. next d.state (top_frame x) (terminal_of t)) st) ∙ next_pop d.state (terminal_of t)))
pops s (o ∷ rest) d t q r e st n = ap (λ x. advance (Pop r) (frames x)) st ∙ ap (λ x. Some (r, frames x)) (sym (closed_stack d t ∙ ap rest_of st))

pub code_none : (c : Code) → Some c ≡ None → ⊥
code_none c e = cc

stepped_config : (s : Step) (d : DocumentState) (t : Token) (q : State) → s ≡ next d.state (top_frame d.stack) (terminal_of t) → step_code s d t ≡ None → advance s (frames d.stack) ≡ config (stepped s q d t)
stepped_config (Stay r) d t q n c = ap (λ st. Some (r, frames st)) (sym (stayed_stack q d t))
stepped_config (Push f r) d t q n c = ap (λ fs. Some (r, fs)) (sym (opened_frames d f (bracket_at t)))
stepped_config (Pop r) d t q n c = pops (Pop r) d.stack d t q r refl refl n
stepped_config Refused d t q n c = absurd (code_none G2 c)

-- the reader goes where the grammar goes
pub token_config : (d : DocumentState) (t : Token) → token_code d t ≡ None → step (config d) t ≡ config (after_token d t)
unfolding code_from state_from
token_config d t c =
    let e = settled d (terminal_of t) in
    ap₂ (λ s fs. advance s fs) (ap (λ o. next d.state o (terminal_of t)) (tops d.stack) ∙ settled_step d (terminal_of t)) (ap frames (sym (settled_stack d (terminal_of t))))
    ∙ stepped_config (step_of e.state e t) e t e.state refl c
