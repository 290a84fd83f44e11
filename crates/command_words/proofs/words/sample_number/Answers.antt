use Rattle.std.proofs.Common.{◌≡◌, ℕ, ◌<◌, Ok, sym, ap, ◌∙◌, arith}
use Rattle.std.specs.Str.Parse.{digits_value}
use Rattle.std.proofs.lemmas.Bool.{true≢false}
use Rattle.std.proofs.lemmas.Fmt.{parse-decimal}
use Rattle.command_words.specs.Words.{writes_sample}
use Rattle.command_words.proofs.Samples.{written, found, not_found}
use Rattle.command_words.proofs.words.sample_number.Goals as goal

pub returns-in_default : goal.returns-in_default
returns-in_default c =
    not_found c.args.word.now (λ e.
    let p = written (digits_value 10 c.args.word.now) c.args.word.now e in
    let l : digits_value 10 c.args.word.now < 1000 = p.0 in
    c.in_default.not-Ok (digits_value 10 c.args.word.now)
    (parse-decimal 32 (digits_value 10 c.args.word.now) c.args.word.now c.parse.result (omega (arith, l)) (omega (arith, l)) (sym p.1) c.parse.ensures.value.0))

pub returns-then-writes_sample : goal.returns-then-writes_sample
returns-then-writes_sample c = found c.in-Ok.n c.args.word.now (sym c.writes_sample.ensures ∙ c.if-writes_sample.true)

pub returns : goal.returns
returns c =
    not_found c.args.word.now (λ e.
    let p = written (digits_value 10 c.args.word.now) c.args.word.now e in
    let l : digits_value 10 c.args.word.now < 1000 = p.0 in
    let read : Ok c.in-Ok.n ≡ Ok (digits_value 10 c.args.word.now) =
    sym c.in-Ok.is ∙ parse-decimal 32 (digits_value 10 c.args.word.now) c.args.word.now c.parse.result (omega (arith, l)) (omega (arith, l)) (sym p.1) c.parse.ensures.value.0 in
    let number : c.in-Ok.n ≡ digits_value 10 c.args.word.now = cc in
    true≢false (sym (ap (λ (k : ℕ). writes_sample k c.args.word.now) number ∙ e) ∙ sym c.writes_sample.ensures ∙ c.if-writes_sample.false))
