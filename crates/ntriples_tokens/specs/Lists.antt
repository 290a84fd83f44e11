-- All of an enumeration, one by one.
use Rattle.std.proofs.Common.{List, [], ◌∷◌, ◌≡◌}
use Rattle.std.proofs.lemmas.Bool.{and_parts}
use Rattle.std.specs.Prelude.{Bool, true, ◌&&◌}
use Rattle.text_patterns.proofs.Spans.{all, all_parts}
use Rattle.ntriples_tokens.specs.declared.kinds.Kind.{Kind}
use Rattle.ntriples_tokens.specs.declared.kinds.Kind.TheVariants as kind
use Rattle.ntriples_tokens.specs.declared.classes.Class.{Class}
use Rattle.ntriples_tokens.specs.declared.classes.Class.TheVariants as class
use Rattle.ntriples_tokens.specs.declared.states.Escape.{Escape}
use Rattle.ntriples_tokens.specs.declared.states.Escape.TheVariants as escape
use Rattle.ntriples_tokens.specs.declared.states.State.{State}
use Rattle.ntriples_tokens.specs.declared.states.State.TheVariants as state

abbrev pub classes : List Class
classes = class.Less ∷ class.Greater ∷ class.Quote ∷ class.Apostrophe ∷ class.Backslash ∷ class.Underscore ∷ class.Colon ∷ class.Point ∷ class.At ∷ class.Caret
    ∷ class.Dash ∷ class.LineEnd ∷ class.Odd ∷ class.Zero ∷ class.One ∷ class.ToSeven ∷ class.ToNine ∷ class.HexLetter ∷ class.HexEscape ∷ class.HexD
    ∷ class.EscapeLetter ∷ class.SmallU ∷ class.LargeU ∷ class.Letter ∷ class.Labels ∷ class.Inside ∷ class.Other ∷ []

abbrev pub kinds : List Kind
kinds = kind.IriRef ∷ kind.Blank ∷ kind.Str ∷ kind.AtWord ∷ kind.Carets ∷ kind.Dot ∷ kind.Eol ∷ []

abbrev pub escapes : List Escape
escapes = escape.Slash ∷ escape.First ∷ escape.Four ∷ escape.Three ∷ escape.Two ∷ escape.Last ∷ escape.Surrogate ∷ escape.Long ∷ escape.LongOne ∷ escape.LongTwo ∷ escape.LongThree ∷ escape.LongTop ∷ []

abbrev pub plain_states : List State
plain_states = state.Start ∷ state.Iri ∷ state.IriEnd ∷ state.BlankStart ∷ state.BlankColon ∷ state.BlankLabel ∷ state.BlankPoint ∷ state.InText ∷ state.TextEnd
    ∷ state.AtStart ∷ state.AtLetters ∷ state.AtDash ∷ state.AtMore ∷ state.CaretOne ∷ state.CaretTwo ∷ state.Stop ∷ state.Lines ∷ []

abbrev pub in_both : (State → Bool) → Escape → Bool
in_both f e = f (state.IriEscape e) && f (state.TextEscape e)

pub each_class : (f : Class → Bool) → all f classes ≡ true → (x : Class) → f x ≡ true
each_class f h class.Less = (all_parts f classes h).0
each_class f h class.Greater = (all_parts f classes h).1.0
each_class f h class.Quote = (all_parts f classes h).1.1.0
each_class f h class.Apostrophe = (all_parts f classes h).1.1.1.0
each_class f h class.Backslash = (all_parts f classes h).1.1.1.1.0
each_class f h class.Underscore = (all_parts f classes h).1.1.1.1.1.0
each_class f h class.Colon = (all_parts f classes h).1.1.1.1.1.1.0
each_class f h class.Point = (all_parts f classes h).1.1.1.1.1.1.1.0
each_class f h class.At = (all_parts f classes h).1.1.1.1.1.1.1.1.0
each_class f h class.Caret = (all_parts f classes h).1.1.1.1.1.1.1.1.1.0
each_class f h class.Dash = (all_parts f classes h).1.1.1.1.1.1.1.1.1.1.0
each_class f h class.LineEnd = (all_parts f classes h).1.1.1.1.1.1.1.1.1.1.1.0
each_class f h class.Odd = (all_parts f classes h).1.1.1.1.1.1.1.1.1.1.1.1.0
each_class f h class.Zero = (all_parts f classes h).1.1.1.1.1.1.1.1.1.1.1.1.1.0
each_class f h class.One = (all_parts f classes h).1.1.1.1.1.1.1.1.1.1.1.1.1.1.0
each_class f h class.ToSeven = (all_parts f classes h).1.1.1.1.1.1.1.1.1.1.1.1.1.1.1.0
each_class f h class.ToNine = (all_parts f classes h).1.1.1.1.1.1.1.1.1.1.1.1.1.1.1.1.0
each_class f h class.HexLetter = (all_parts f classes h).1.1.1.1.1.1.1.1.1.1.1.1.1.1.1.1.1.0
each_class f h class.HexEscape = (all_parts f classes h).1.1.1.1.1.1.1.1.1.1.1.1.1.1.1.1.1.1.0
each_class f h class.HexD = (all_parts f classes h).1.1.1.1.1.1.1.1.1.1.1.1.1.1.1.1.1.1.1.0
each_class f h class.EscapeLetter = (all_parts f classes h).1.1.1.1.1.1.1.1.1.1.1.1.1.1.1.1.1.1.1.1.0
each_class f h class.SmallU = (all_parts f classes h).1.1.1.1.1.1.1.1.1.1.1.1.1.1.1.1.1.1.1.1.1.0
each_class f h class.LargeU = (all_parts f classes h).1.1.1.1.1.1.1.1.1.1.1.1.1.1.1.1.1.1.1.1.1.1.0
each_class f h class.Letter = (all_parts f classes h).1.1.1.1.1.1.1.1.1.1.1.1.1.1.1.1.1.1.1.1.1.1.1.0
each_class f h class.Labels = (all_parts f classes h).1.1.1.1.1.1.1.1.1.1.1.1.1.1.1.1.1.1.1.1.1.1.1.1.0
each_class f h class.Inside = (all_parts f classes h).1.1.1.1.1.1.1.1.1.1.1.1.1.1.1.1.1.1.1.1.1.1.1.1.1.0
each_class f h class.Other = (all_parts f classes h).1.1.1.1.1.1.1.1.1.1.1.1.1.1.1.1.1.1.1.1.1.1.1.1.1.1.0

pub each_kind : (f : Kind → Bool) → all f kinds ≡ true → (x : Kind) → f x ≡ true
each_kind f h kind.IriRef = (all_parts f kinds h).0
each_kind f h kind.Blank = (all_parts f kinds h).1.0
each_kind f h kind.Str = (all_parts f kinds h).1.1.0
each_kind f h kind.AtWord = (all_parts f kinds h).1.1.1.0
each_kind f h kind.Carets = (all_parts f kinds h).1.1.1.1.0
each_kind f h kind.Dot = (all_parts f kinds h).1.1.1.1.1.0
each_kind f h kind.Eol = (all_parts f kinds h).1.1.1.1.1.1.0

pub each_escape : (f : Escape → Bool) → all f escapes ≡ true → (x : Escape) → f x ≡ true
each_escape f h escape.Slash = (all_parts f escapes h).0
each_escape f h escape.First = (all_parts f escapes h).1.0
each_escape f h escape.Four = (all_parts f escapes h).1.1.0
each_escape f h escape.Three = (all_parts f escapes h).1.1.1.0
each_escape f h escape.Two = (all_parts f escapes h).1.1.1.1.0
each_escape f h escape.Last = (all_parts f escapes h).1.1.1.1.1.0
each_escape f h escape.Surrogate = (all_parts f escapes h).1.1.1.1.1.1.0
each_escape f h escape.Long = (all_parts f escapes h).1.1.1.1.1.1.1.0
each_escape f h escape.LongOne = (all_parts f escapes h).1.1.1.1.1.1.1.1.0
each_escape f h escape.LongTwo = (all_parts f escapes h).1.1.1.1.1.1.1.1.1.0
each_escape f h escape.LongThree = (all_parts f escapes h).1.1.1.1.1.1.1.1.1.1.0
each_escape f h escape.LongTop = (all_parts f escapes h).1.1.1.1.1.1.1.1.1.1.1.0

pub each_state : (f : State → Bool) → all f plain_states ≡ true → all (in_both f) escapes ≡ true → (q : State) → f q ≡ true
each_state f h g state.Start = (all_parts f plain_states h).0
each_state f h g state.Iri = (all_parts f plain_states h).1.0
each_state f h g state.IriEnd = (all_parts f plain_states h).1.1.0
each_state f h g state.BlankStart = (all_parts f plain_states h).1.1.1.0
each_state f h g state.BlankColon = (all_parts f plain_states h).1.1.1.1.0
each_state f h g state.BlankLabel = (all_parts f plain_states h).1.1.1.1.1.0
each_state f h g state.BlankPoint = (all_parts f plain_states h).1.1.1.1.1.1.0
each_state f h g state.InText = (all_parts f plain_states h).1.1.1.1.1.1.1.0
each_state f h g state.TextEnd = (all_parts f plain_states h).1.1.1.1.1.1.1.1.0
each_state f h g state.AtStart = (all_parts f plain_states h).1.1.1.1.1.1.1.1.1.0
each_state f h g state.AtLetters = (all_parts f plain_states h).1.1.1.1.1.1.1.1.1.1.0
each_state f h g state.AtDash = (all_parts f plain_states h).1.1.1.1.1.1.1.1.1.1.1.0
each_state f h g state.AtMore = (all_parts f plain_states h).1.1.1.1.1.1.1.1.1.1.1.1.0
each_state f h g state.CaretOne = (all_parts f plain_states h).1.1.1.1.1.1.1.1.1.1.1.1.1.0
each_state f h g state.CaretTwo = (all_parts f plain_states h).1.1.1.1.1.1.1.1.1.1.1.1.1.1.0
each_state f h g state.Stop = (all_parts f plain_states h).1.1.1.1.1.1.1.1.1.1.1.1.1.1.1.0
each_state f h g state.Lines = (all_parts f plain_states h).1.1.1.1.1.1.1.1.1.1.1.1.1.1.1.1.0
each_state f h g (state.IriEscape e) = (and_parts (f (state.IriEscape e)) (f (state.TextEscape e)) (each_escape (in_both f) g e)).0
each_state f h g (state.TextEscape e) = (and_parts (f (state.IriEscape e)) (f (state.TextEscape e)) (each_escape (in_both f) g e)).1
