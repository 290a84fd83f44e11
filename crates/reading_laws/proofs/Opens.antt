-- The brackets that stand open behind tokens that the machine takes, counted by the tokens.
use Rattle.std.proofs.Common.{ℕ, ◌+◌, ◌-◌, List, [], ◌∷◌, ◌≡◌, refl, ap, sym, ◌∙◌, length, arith}
use Rattle.std.specs.Prelude.{Bool, true, false, Option, None, Some}
use Rattle.std.proofs.lemmas.Bool.{false≢true}
use Rattle.turtle_grammar.specs.declared.terminals.NameForm.{NameForm}
use Rattle.turtle_grammar.specs.declared.terminals.NameForm.TheVariants as form
use Rattle.turtle_grammar.specs.declared.terminals.AtWord.TheVariants as word
use Rattle.turtle_grammar.specs.declared.terminals.Terminal.{Terminal}
use Rattle.turtle_grammar.specs.declared.terminals.Terminal.TheVariants as terminal
use Rattle.turtle_grammar.specs.declared.states.Frame.{Frame}
use Rattle.turtle_grammar.specs.declared.states.Frame.TheVariants.{SubjectSquare, SubjectRound, ObjectSquare, ObjectRound}
use Rattle.turtle_grammar.specs.declared.states.State.{State}
use Rattle.turtle_grammar.specs.declared.states.State.TheVariants as state
use Rattle.turtle_grammar.specs.declared.states.Step.{Step}
use Rattle.turtle_grammar.specs.declared.states.Step.TheVariants.{Stay, Push, Pop, Refused}
use Rattle.turtle_grammar.specs.Machine.{next, statement_step, form_step, verb_step, object_step, after_step, opened_step, more_step, text_step}
use Rattle.turtle_grammar.specs.Tokens.{Token, terminal_of}
use Rattle.turtle_grammar.specs.Tokens.Token.{OpenSquare, CloseSquare, OpenRound, CloseRound}
use Rattle.turtle_grammar.specs.Runs.{top, advance, run}
use Rattle.reading_laws.specs.Refusals.{open_behind, is_opening}

-- a step opens a bracket where its terminal does, and ends one where that does
abbrev pub agrees : Step → Terminal → Bool
agrees Refused t = true
agrees (Push f q) terminal.OpenSquare = true
agrees (Push f q) terminal.OpenRound = true
agrees (Push f q) _ = false
agrees (Pop q) terminal.CloseSquare = true
agrees (Pop q) terminal.CloseRound = true
agrees (Pop q) _ = false
agrees (Stay q) terminal.OpenSquare = false
agrees (Stay q) terminal.OpenRound = false
agrees (Stay q) terminal.CloseSquare = false
agrees (Stay q) terminal.CloseRound = false
agrees (Stay q) _ = true

statement_agrees : (t : Terminal) → agrees (statement_step t) t ≡ true
statement_agrees (terminal.At word.Prefix) = refl
statement_agrees (terminal.At word.Base) = refl
statement_agrees (terminal.At word.Other) = refl
statement_agrees _ = refl

form_agrees : (t : Terminal) (f : NameForm) (q : State) → agrees (form_step t f q) t ≡ true
form_agrees (terminal.Name form.Reference) form.Reference q = refl
form_agrees (terminal.Name form.Reference) form.Namespace q = refl
form_agrees (terminal.Name form.Reference) form.Local q = refl
form_agrees (terminal.Name form.Namespace) form.Reference q = refl
form_agrees (terminal.Name form.Namespace) form.Namespace q = refl
form_agrees (terminal.Name form.Namespace) form.Local q = refl
form_agrees (terminal.Name form.Local) form.Reference q = refl
form_agrees (terminal.Name form.Local) form.Namespace q = refl
form_agrees (terminal.Name form.Local) form.Local q = refl
form_agrees _ f q = refl

verb_agrees : (t : Terminal) → agrees (verb_step t) t ≡ true
verb_agrees (terminal.Name f) = refl
verb_agrees _ = refl

object_agrees : (t : Terminal) → agrees (object_step t) t ≡ true
object_agrees (terminal.Name f) = refl
object_agrees _ = refl

after_agrees : (o : Option Frame) (t : Terminal) → agrees (after_step o t) t ≡ true
after_agrees None terminal.Comma = refl
after_agrees None _ = refl
after_agrees (Some SubjectSquare) terminal.Comma = refl
after_agrees (Some SubjectSquare) _ = refl
after_agrees (Some ObjectSquare) terminal.Comma = refl
after_agrees (Some ObjectSquare) _ = refl
after_agrees (Some SubjectRound) terminal.CloseRound = refl
after_agrees (Some SubjectRound) t = object_agrees t
after_agrees (Some ObjectRound) terminal.CloseRound = refl
after_agrees (Some ObjectRound) t = object_agrees t

opened_agrees : (o : Option Frame) (t : Terminal) → agrees (opened_step o t) t ≡ true
opened_agrees None t = verb_agrees t
opened_agrees (Some SubjectSquare) terminal.CloseSquare = refl
opened_agrees (Some SubjectSquare) t = verb_agrees t
opened_agrees (Some ObjectSquare) terminal.CloseSquare = refl
opened_agrees (Some ObjectSquare) t = verb_agrees t
opened_agrees (Some SubjectRound) t = verb_agrees t
opened_agrees (Some ObjectRound) t = verb_agrees t

more_agrees : (o : Option Frame) (t : Terminal) → agrees (more_step o t) t ≡ true
more_agrees o (terminal.Name f) = refl
more_agrees o terminal.A = refl
more_agrees o terminal.Comma = refl
more_agrees o t = after_agrees o t

text_agrees : (o : Option Frame) (t : Terminal) → agrees (text_step o t) t ≡ true
text_agrees o (terminal.At w) = refl
text_agrees o terminal.Carets = refl
text_agrees o t = after_agrees o t

pub next_agrees : (q : State) (o : Option Frame) (t : Terminal) → agrees (next q o t) t ≡ true
next_agrees state.Statement o t = statement_agrees t
next_agrees state.AtPrefixName o t = form_agrees t form.Namespace state.AtPrefixIri
next_agrees state.PrefixName o t = form_agrees t form.Namespace state.PrefixIri
next_agrees state.AtPrefixIri o t = form_agrees t form.Reference state.DirectiveDot
next_agrees state.AtBaseIri o t = form_agrees t form.Reference state.DirectiveDot
next_agrees state.PrefixIri o t = form_agrees t form.Reference state.Statement
next_agrees state.BaseIri o t = form_agrees t form.Reference state.Statement
next_agrees state.DirectiveDot o terminal.Dot = refl
next_agrees state.DirectiveDot o _ = refl
next_agrees state.Verb o t = verb_agrees t
next_agrees state.VerbOrDot o terminal.Dot = refl
next_agrees state.VerbOrDot o t = verb_agrees t
next_agrees state.VerbOrClose o t = opened_agrees o t
next_agrees state.VerbOrMore o t = more_agrees o t
next_agrees state.Object o t = object_agrees t
next_agrees state.AfterObject o t = after_agrees o t
next_agrees state.AfterText o t = text_agrees o t
next_agrees state.Datatype o (terminal.Name f) = refl
next_agrees state.Datatype o _ = refl

-- what each token does to the count
stay_open : (q : State) (t : Token) (n : ℕ) (ts : List Token) → agrees (Stay q) (terminal_of t) ≡ true → open_behind n ts ≡ open_behind n (t ∷ ts)
stay_open q (OpenSquare at) n ts h = absurd (false≢true h)
stay_open q (OpenRound at) n ts h = absurd (false≢true h)
stay_open q CloseSquare n ts h = absurd (false≢true h)
stay_open q (CloseRound at) n ts h = absurd (false≢true h)
stay_open q _ n ts h = refl

push_open : (f : Frame) (q : State) (t : Token) (n : ℕ) (ts : List Token) → agrees (Push f q) (terminal_of t) ≡ true → open_behind (n + 1) ts ≡ open_behind n (t ∷ ts)
push_open f q (OpenSquare at) n ts h = refl
push_open f q (OpenRound at) n ts h = refl
push_open f q _ n ts h = absurd (false≢true h)

pop_open : (q : State) (t : Token) (n : ℕ) (ts : List Token) → agrees (Pop q) (terminal_of t) ≡ true → open_behind (n - 1) ts ≡ open_behind n (t ∷ ts)
pop_open q CloseSquare n ts h = refl
pop_open q (CloseRound at) n ts h = refl
pop_open q _ n ts h = absurd (false≢true h)

dead : (ts : List Token) (c : State × List Frame) → run None ts ≡ Some c → ⊥
dead [] c e = cc
dead (t ∷ ts) c e = dead ts c e

open_more : (s : Step) (t : Token) (ts : List Token) (st : List Frame) (c : State × List Frame) → agrees s (terminal_of t) ≡ true
    → ((q : State) (fs : List Frame) → run (Some (q, fs)) ts ≡ Some c → length c.1 ≡ open_behind (length fs) ts)
    → run (advance s st) ts ≡ Some c → length c.1 ≡ open_behind (length st) (t ∷ ts)
open_more (Stay r) t ts st c a ih e = ih r st e ∙ stay_open r t (length st) ts a
open_more (Push f r) t ts st c a ih e =
    let n : length (f ∷ st) ≡ length st + 1 = omega arith in
    ih r (f ∷ st) e ∙ ap (λ k. open_behind k ts) n ∙ push_open f r t (length st) ts a
open_more (Pop r) t ts [] c a ih e = absurd (dead ts c e)
open_more (Pop r) t ts (f ∷ st) c a ih e =
    let n : length st ≡ length (f ∷ st) - 1 = omega arith in
    ih r st e ∙ ap (λ k. open_behind k ts) n ∙ pop_open r t (length (f ∷ st)) ts a
open_more Refused t ts st c a ih e = absurd (dead ts c e)

some_is : (a b : State × List Frame) → Some a ≡ Some b → a ≡ b
some_is a b e = cc

pub run_open : (ts : List Token) (q : State) (st : List Frame) (c : State × List Frame) → run (Some (q, st)) ts ≡ Some c → length c.1 ≡ open_behind (length st) ts
run_open [] q st c e = ap (λ x. length x.1) (some_is c (q, st) (sym e))
run_open (t ∷ ts) q st c e = open_more (next q (top st) (terminal_of t)) t ts st c (next_agrees q (top st) (terminal_of t)) (λ r fs. run_open ts r fs c) e

push_opens : (f : Frame) (r : State) (t : Token) → agrees (Push f r) (terminal_of t) ≡ true → is_opening t ≡ true
push_opens f r (OpenSquare at) h = refl
push_opens f r (OpenRound at) h = refl
push_opens f r _ h = absurd (false≢true h)

-- a step that opens a bracket is that of one
pub opens : (q : State) (o : Option Frame) (t : Token) (f : Frame) (r : State) → next q o (terminal_of t) ≡ Push f r → is_opening t ≡ true
opens q o t f r e = push_opens f r t (ap (λ s. agrees s (terminal_of t)) (sym e) ∙ next_agrees q o (terminal_of t))
