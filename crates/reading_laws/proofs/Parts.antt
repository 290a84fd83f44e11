-- Which part of a directive is awaited in each state of the grammar.
use Rattle.std.proofs.Common.{◌≡◌, refl}
use Rattle.std.specs.Prelude.{Bool, true, false, Option, None, Some}
use Rattle.std.proofs.lemmas.Bool.{false≢true}
use Rattle.turtle_grammar.specs.declared.terminals.NameForm.{NameForm}
use Rattle.turtle_grammar.specs.declared.terminals.NameForm.TheVariants as form
use Rattle.turtle_grammar.specs.declared.terminals.AtWord.TheVariants as word
use Rattle.turtle_grammar.specs.declared.states.Frame.{Frame}
use Rattle.turtle_grammar.specs.declared.states.Frame.TheVariants.{SubjectSquare, SubjectRound, ObjectSquare, ObjectRound}
use Rattle.turtle_grammar.specs.declared.states.State.{State}
use Rattle.turtle_grammar.specs.declared.states.State.TheVariants as state
use Rattle.turtle_grammar.specs.declared.states.Step.{Step}
use Rattle.turtle_grammar.specs.declared.states.Step.TheVariants.{Stay, Push, Pop, Refused}
use Rattle.turtle_grammar.specs.Machine.{next, statement_step, form_step, verb_step, object_step, after_step, opened_step, more_step, text_step}
use Rattle.turtle_grammar.specs.Tokens.{Value, Token, terminal_of}
use Rattle.turtle_grammar.specs.Tokens as grammar
use Rattle.reading_laws.specs.Directives.{Part, begun_by, part_behind}
use Rattle.reading_laws.specs.Directives as part

abbrev pub part_of : State → Part
part_of state.AtPrefixName = part.Part.AtPrefix
part_of state.PrefixName = part.Part.AtPrefix
part_of state.AtPrefixIri = part.Part.AtIri
part_of state.PrefixIri = part.Part.AtIri
part_of state.AtBaseIri = part.Part.AtBase
part_of state.BaseIri = part.Part.AtBase
part_of state.AfterText = part.Part.AtTag
part_of _ = part.Part.Statement

abbrev same_part : Part → Part → Bool
same_part part.Part.Statement part.Part.Statement = true
same_part part.Part.AtPrefix part.Part.AtPrefix = true
same_part part.Part.AtIri part.Part.AtIri = true
same_part part.Part.AtBase part.Part.AtBase = true
same_part part.Part.AtTag part.Part.AtTag = true
same_part _ _ = false

pub part_same : (a b : Part) → same_part a b ≡ true → a ≡ b
part_same part.Part.Statement part.Part.Statement h = refl
part_same part.Part.AtPrefix part.Part.AtPrefix h = refl
part_same part.Part.AtIri part.Part.AtIri h = refl
part_same part.Part.AtBase part.Part.AtBase h = refl
part_same part.Part.AtTag part.Part.AtTag h = refl
part_same _ _ h = absurd (false≢true h)

-- a step leads to the part
abbrev pub leads : Step → Part → Bool
leads Refused p = true
leads (Stay q) p = same_part (part_of q) p
leads (Push f q) p = same_part (part_of q) p
leads (Pop q) p = same_part (part_of q) p

statement_leads : (t : Token) → leads (statement_step (terminal_of t)) (begun_by t) ≡ true
statement_leads (grammar.Token.At word.Prefix v) = refl
statement_leads (grammar.Token.At word.Base v) = refl
statement_leads (grammar.Token.At word.Other v) = refl
statement_leads _ = refl

form_leads : (t : Token) (f : NameForm) (q : State) (p : Part) → ((g : NameForm) (v : Value) → same_part (part_of q) (part_behind p (grammar.Token.Name g v)) ≡ true)
    → leads (form_step (terminal_of t) f q) (part_behind p t) ≡ true
form_leads (grammar.Token.Name form.Reference v) form.Reference q p h = h form.Reference v
form_leads (grammar.Token.Name form.Reference v) form.Namespace q p h = refl
form_leads (grammar.Token.Name form.Reference v) form.Local q p h = refl
form_leads (grammar.Token.Name form.Namespace v) form.Reference q p h = refl
form_leads (grammar.Token.Name form.Namespace v) form.Namespace q p h = h form.Namespace v
form_leads (grammar.Token.Name form.Namespace v) form.Local q p h = refl
form_leads (grammar.Token.Name form.Local v) form.Reference q p h = refl
form_leads (grammar.Token.Name form.Local v) form.Namespace q p h = refl
form_leads (grammar.Token.Name form.Local v) form.Local q p h = h form.Local v
form_leads _ f q p h = refl

verb_leads : (t : Token) → leads (verb_step (terminal_of t)) (begun_by t) ≡ true
verb_leads (grammar.Token.Name f v) = refl
verb_leads _ = refl

object_leads : (t : Token) → leads (object_step (terminal_of t)) (begun_by t) ≡ true
object_leads (grammar.Token.Name f v) = refl
object_leads _ = refl

after_leads : (o : Option Frame) (t : Token) → leads (after_step o (terminal_of t)) (begun_by t) ≡ true
after_leads None grammar.Token.Comma = refl
after_leads None _ = refl
after_leads (Some SubjectSquare) grammar.Token.Comma = refl
after_leads (Some SubjectSquare) _ = refl
after_leads (Some ObjectSquare) grammar.Token.Comma = refl
after_leads (Some ObjectSquare) _ = refl
after_leads (Some SubjectRound) (grammar.Token.CloseRound at) = refl
after_leads (Some SubjectRound) t = object_leads t
after_leads (Some ObjectRound) (grammar.Token.CloseRound at) = refl
after_leads (Some ObjectRound) t = object_leads t

opened_leads : (o : Option Frame) (t : Token) → leads (opened_step o (terminal_of t)) (begun_by t) ≡ true
opened_leads None t = verb_leads t
opened_leads (Some SubjectSquare) grammar.Token.CloseSquare = refl
opened_leads (Some SubjectSquare) t = verb_leads t
opened_leads (Some ObjectSquare) grammar.Token.CloseSquare = refl
opened_leads (Some ObjectSquare) t = verb_leads t
opened_leads (Some SubjectRound) t = verb_leads t
opened_leads (Some ObjectRound) t = verb_leads t

more_leads : (o : Option Frame) (t : Token) → leads (more_step o (terminal_of t)) (begun_by t) ≡ true
more_leads o (grammar.Token.Name f v) = refl
more_leads o grammar.Token.A = refl
more_leads o grammar.Token.Comma = refl
more_leads o t = after_leads o t

text_leads : (o : Option Frame) (t : Token) → leads (text_step o (terminal_of t)) (part_behind part.Part.AtTag t) ≡ true
text_leads o (grammar.Token.At w v) = refl
text_leads o grammar.Token.Carets = refl
text_leads o t = after_leads o t

pub next_leads : (q : State) (o : Option Frame) (t : Token) → leads (next q o (terminal_of t)) (part_behind (part_of q) t) ≡ true
next_leads state.Statement o t = statement_leads t
next_leads state.AtPrefixName o t = form_leads t form.Namespace state.AtPrefixIri part.Part.AtPrefix (λ g v. refl)
next_leads state.PrefixName o t = form_leads t form.Namespace state.PrefixIri part.Part.AtPrefix (λ g v. refl)
next_leads state.AtPrefixIri o t = form_leads t form.Reference state.DirectiveDot part.Part.AtIri (λ g v. refl)
next_leads state.AtBaseIri o t = form_leads t form.Reference state.DirectiveDot part.Part.AtBase (λ g v. refl)
next_leads state.PrefixIri o t = form_leads t form.Reference state.Statement part.Part.AtIri (λ g v. refl)
next_leads state.BaseIri o t = form_leads t form.Reference state.Statement part.Part.AtBase (λ g v. refl)
next_leads state.DirectiveDot o grammar.Token.Dot = refl
next_leads state.DirectiveDot o _ = refl
next_leads state.Verb o t = verb_leads t
next_leads state.VerbOrDot o grammar.Token.Dot = refl
next_leads state.VerbOrDot o t = verb_leads t
next_leads state.VerbOrClose o t = opened_leads o t
next_leads state.VerbOrMore o t = more_leads o t
next_leads state.Object o t = object_leads t
next_leads state.AfterObject o t = after_leads o t
next_leads state.AfterText o t = text_leads o t
next_leads state.Datatype o (grammar.Token.Name f v) = refl
next_leads state.Datatype o _ = refl
