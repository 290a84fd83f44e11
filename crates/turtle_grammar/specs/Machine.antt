-- What may follow what was read.
use Rattle.std.specs.Prelude.{Option, None, Some}
use Rattle.turtle_grammar.specs.declared.terminals.NameForm.{NameForm}
use Rattle.turtle_grammar.specs.declared.terminals.NameForm.TheVariants as form
use Rattle.turtle_grammar.specs.declared.terminals.AtWord.TheVariants as word
use Rattle.turtle_grammar.specs.declared.terminals.Terminal.{Terminal}
use Rattle.turtle_grammar.specs.declared.terminals.Terminal.TheVariants.{Name, A, Blank, Literal, Str, At, Prefix, Base, Dot, Semicolon, Comma, OpenSquare, CloseSquare, OpenRound, CloseRound, Carets}
use Rattle.turtle_grammar.specs.declared.states.Frame.{Frame}
use Rattle.turtle_grammar.specs.declared.states.Frame.TheVariants.{SubjectSquare, SubjectRound, ObjectSquare, ObjectRound}
use Rattle.turtle_grammar.specs.declared.states.State.{State}
use Rattle.turtle_grammar.specs.declared.states.State.TheVariants.{Statement, AtPrefixName, AtPrefixIri, AtBaseIri, DirectiveDot, PrefixName, PrefixIri, BaseIri, Verb, VerbOrDot, VerbOrClose, VerbOrMore, Object, AfterObject, AfterText, Datatype}
use Rattle.turtle_grammar.specs.declared.states.Step.{Step}
use Rattle.turtle_grammar.specs.declared.states.Step.TheVariants.{Stay, Push, Pop, Refused}

abbrev pub statement_step : Terminal → Step
statement_step (Name f) = Stay Verb
statement_step Blank = Stay Verb
statement_step OpenSquare = Push SubjectSquare VerbOrClose
statement_step OpenRound = Push SubjectRound AfterObject
statement_step (At word.Prefix) = Stay AtPrefixName
statement_step (At word.Base) = Stay AtBaseIri
statement_step Prefix = Stay PrefixName
statement_step Base = Stay BaseIri
statement_step _ = Refused

abbrev pub form_step : Terminal → NameForm → State → Step
form_step (Name form.Reference) form.Reference q = Stay q
form_step (Name form.Namespace) form.Namespace q = Stay q
form_step (Name form.Local) form.Local q = Stay q
form_step _ f q = Refused

abbrev pub verb_step : Terminal → Step
verb_step (Name f) = Stay Object
verb_step A = Stay Object
verb_step _ = Refused

abbrev pub object_step : Terminal → Step
object_step (Name f) = Stay AfterObject
object_step Blank = Stay AfterObject
object_step Literal = Stay AfterObject
object_step Str = Stay AfterText
object_step OpenSquare = Push ObjectSquare VerbOrClose
object_step OpenRound = Push ObjectRound AfterObject
object_step _ = Refused

abbrev pub after_step : Option Frame → Terminal → Step
after_step (Some SubjectRound) CloseRound = Pop Verb
after_step (Some ObjectRound) CloseRound = Pop AfterObject
after_step (Some SubjectRound) t = object_step t
after_step (Some ObjectRound) t = object_step t
after_step _ Comma = Stay Object
after_step _ Semicolon = Stay VerbOrMore
after_step None Dot = Stay Statement
after_step (Some SubjectSquare) CloseSquare = Pop VerbOrDot
after_step (Some ObjectSquare) CloseSquare = Pop AfterObject
after_step _ _ = Refused

abbrev pub opened_step : Option Frame → Terminal → Step
opened_step (Some SubjectSquare) CloseSquare = Pop Verb
opened_step (Some ObjectSquare) CloseSquare = Pop AfterObject
opened_step _ t = verb_step t

abbrev pub more_step : Option Frame → Terminal → Step
more_step top (Name f) = Stay Object
more_step top A = Stay Object
more_step top Comma = Refused
more_step top t = after_step top t

abbrev pub text_step : Option Frame → Terminal → Step
text_step top (At w) = Stay AfterObject
text_step top Carets = Stay Datatype
text_step top t = after_step top t

abbrev pub next : State → Option Frame → Terminal → Step
next Statement top t = statement_step t
next AtPrefixName top t = form_step t form.Namespace AtPrefixIri
next PrefixName top t = form_step t form.Namespace PrefixIri
next AtPrefixIri top t = form_step t form.Reference DirectiveDot
next AtBaseIri top t = form_step t form.Reference DirectiveDot
next PrefixIri top t = form_step t form.Reference Statement
next BaseIri top t = form_step t form.Reference Statement
next DirectiveDot top Dot = Stay Statement
next DirectiveDot top _ = Refused
next Verb top t = verb_step t
next VerbOrDot top Dot = Stay Statement
next VerbOrDot top t = verb_step t
next VerbOrClose top t = opened_step top t
next VerbOrMore top t = more_step top t
next Object top t = object_step t
next AfterObject top t = after_step top t
next AfterText top t = text_step top t
next Datatype top (Name f) = Stay AfterObject
next Datatype top _ = Refused
