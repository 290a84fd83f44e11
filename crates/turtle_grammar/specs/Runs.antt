-- What the tokens of a text leave open.
use Rattle.std.specs.Prelude.{List, [], ◌∷◌, Option, None, Some}
use Rattle.turtle_grammar.specs.declared.states.Frame.{Frame}
use Rattle.turtle_grammar.specs.declared.states.State.{State}
use Rattle.turtle_grammar.specs.declared.states.State.TheVariants.{Statement}
use Rattle.turtle_grammar.specs.declared.states.Step.{Step}
use Rattle.turtle_grammar.specs.declared.states.Step.TheVariants.{Stay, Push, Pop, Refused}
use Rattle.turtle_grammar.specs.Tokens.{Token, terminal_of}
use Rattle.turtle_grammar.specs.Machine.{next}

-- a state and the brackets that stand open, the innermost first; or none, where a token was refused
abbrev pub Config : Type 0
Config = Option (State × List Frame)

abbrev pub top : List Frame → Option Frame
top [] = None
top (f ∷ st) = Some f

abbrev pub advance : Step → List Frame → Config
advance (Stay q) st = Some (q, st)
advance (Push f q) st = Some (q, f ∷ st)
advance (Pop q) [] = None
advance (Pop q) (f ∷ st) = Some (q, st)
advance Refused st = None

abbrev pub step : Config → Token → Config
step None t = None
step (Some c) t = advance (next c.0 (top c.1) (terminal_of t)) c.1

abbrev pub run : Config → List Token → Config
run c [] = c
run c (t ∷ ts) = run (step c t) ts

abbrev pub start : Config
start = Some (Statement, [])
