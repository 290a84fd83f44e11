use Rattle.std.proofs.Common.{◌≡◌, ℕ, ◌++◌, Ok, List, drop, sym, ap, ◌∙◌, arith}
use Rattle.std.specs.Prelude.{codes}
use Rattle.std.specs.Fmt.{decimal}
use Rattle.std.proofs.lemmas.Bool.{true≢false}
use Rattle.std.proofs.lemmas.Fmt.{parse-decimal}
use Rattle.std.proofs.lemmas.Slice.Eq.{bytes_eq-Decides}
use Rattle.period_names.proofs.BlankNames.{named, not_named, behind}
use Rattle.period_names.proofs.asking.blank_number.Goals as goal

pub returns-in_default-parse : goal.returns-in_default-parse
returns-in_default-parse c =
    let cut = c.in-Some.ensures.cases in
    let rest : c.in-Some.digits.now ≡ drop 3 c.args.word.now = cut.2 ∙ ap (λ (k : ℕ). drop k c.args.word.now) cut.1.0 in
    not_named c.args.word.now (λ n l e.
    c.in_default-parse.not-Ok n (parse-decimal 32 n c.in-Some.digits.now c.parse.result l (omega (arith, l)) (behind n c.args.word.now c.in-Some.digits.now rest e) c.parse.ensures.value.0))

pub returns-then-eq : goal.returns-then-eq
returns-then-eq c =
    let cut = c.in-Some.ensures.cases in
    let rest : c.in-Some.digits.now ≡ drop 3 c.args.word.now = cut.2 ∙ ap (λ (k : ℕ). drop k c.args.word.now) cut.1.0 in
    let whole : c.args.word.now ≡ codes "_:b" ++ drop 3 c.args.word.now = cut.1.1 ∙ ap (λ (k : ℕ). codes "_:b" ++ drop k c.args.word.now) cut.1.0 in
    let same : c.format.result.now ≡ c.in-Some.digits.now = (bytes_eq-Decides c.format.result.now c.in-Some.digits.now).0 (sym c.eq.ensures ∙ c.if-eq.true) in
    named c.in-Ok.n c.args.word.now (omega arith)
    (whole ∙ ap (λ (ds : List ℕ). codes "_:b" ++ ds) (sym rest ∙ sym same ∙ c.format.ensures.text))

pub returns : goal.returns
returns c =
    let cut = c.in-Some.ensures.cases in
    let rest : c.in-Some.digits.now ≡ drop 3 c.args.word.now = cut.2 ∙ ap (λ (k : ℕ). drop k c.args.word.now) cut.1.0 in
    not_named c.args.word.now (λ n l e.
    let digits = behind n c.args.word.now c.in-Some.digits.now rest e in
    let read : Ok c.in-Ok.n ≡ Ok n = sym c.in-Ok.is ∙ parse-decimal 32 n c.in-Some.digits.now c.parse.result l (omega (arith, l)) digits c.parse.ensures.value.0 in
    let number : c.in-Ok.n ≡ n = cc in
    true≢false (sym ((bytes_eq-Decides c.format.result.now c.in-Some.digits.now).1 (c.format.ensures.text ∙ ap decimal number ∙ sym digits)) ∙ sym c.eq.ensures ∙ c.if-eq.false))
