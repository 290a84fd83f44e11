-- N-Triples is a syntax whose machine reads the standard's tokens.
use Rattle.std.proofs.Common.{ℕ, ◌≡◌, List, refl}
use Rattle.std.specs.Prelude.{true, None}
use Rattle.std.proofs.lemmas.Bool.{false≢true}
use Rattle.token_scanner.specs.Rules.{IsScanner, Right, Ruled}
use Rattle.token_scanner.specs.Fronts.{ruled}
use Rattle.token_scanner.specs.declared.front.Front.{Front}
use Rattle.token_scanner.specs.declared.front.Front.TheVariants.{Token, Nothing, Long}
use Rattle.ntriples_tokens.specs.Steps.{next, is_final}
use Rattle.ntriples_tokens.specs.Scanning.{scanner}
use Rattle.ntriples_tokens.specs.declared.classes.Class.{Class}
use Rattle.ntriples_tokens.specs.declared.kinds.Kind.{Kind}
use Rattle.ntriples_tokens.specs.declared.states.State.{State}
use Rattle.ntriples_tokens.specs.declared.states.State.TheVariants as state
use Rattle.ntriples_tokens.specs.Tested.{ntriples_machine}

stuck : (q : State) (k : Class) → is_final q ≡ true → next q k ≡ None
stuck state.IriEnd k e = refl
stuck state.TextEnd k e = refl
stuck state.CaretTwo k e = refl
stuck state.Stop k e = refl
stuck state.Start k e = absurd (false≢true e)
stuck state.Iri k e = absurd (false≢true e)
stuck (state.IriEscape x) k e = absurd (false≢true e)
stuck state.BlankStart k e = absurd (false≢true e)
stuck state.BlankColon k e = absurd (false≢true e)
stuck state.BlankLabel k e = absurd (false≢true e)
stuck state.BlankPoint k e = absurd (false≢true e)
stuck state.InText k e = absurd (false≢true e)
stuck (state.TextEscape x) k e = absurd (false≢true e)
stuck state.AtStart k e = absurd (false≢true e)
stuck state.AtLetters k e = absurd (false≢true e)
stuck state.AtDash k e = absurd (false≢true e)
stuck state.AtMore k e = absurd (false≢true e)
stuck state.CaretOne k e = absurd (false≢true e)
stuck state.Lines k e = absurd (false≢true e)

rules : (f : Front Kind) (text : List ℕ) → Right scanner f text → Ruled scanner (ruled scanner f text) text
rules Nothing text r = r
rules Long text r = r
rules (Token k n) text r = (record { some = r.0.some; in_text = r.0.in_text; spelled = r.0.spelled; longest = r.0.longest }, r.1)

pub right : IsScanner scanner
right = record {
  machine = ntriples_machine;
  begins = refl;
  opens = refl;
  stuck = λ q c e. stuck q _ e;
  rules = rules;
  inside = λ k n chars more h. refl;
  final = λ k n chars more q h l e. refl;
}
