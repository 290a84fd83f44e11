use Rattle.std.proofs.Common.{◌≡◌, ℕ, get_or, take, length, ap, sym, ◌∙◌, arith, true}
use Rattle.std.specs.Prelude.{not}
use Rattle.std.proofs.lemmas.List.{take_all}
use Rattle.std.proofs.lemmas.List.Sums.{position_or_len_is}
use Rattle.time_primitive.specs.Parts.{is_digit_byte}
use Rattle.time_primitive.proofs.parts.digits.Goals as goal

pub returns-then-not-is_digit : goal.returns-then-not-is_digit
returns-then-not-is_digit c =
    let here : not (is_digit_byte (get_or c.args.text.now c.loop-i.i 0)) ≡ true = ap not (sym c.is_digit.ensures ∙ c.if-not-is_digit.true) in
    ap (λ (n : ℕ). take n c.args.text.now)
    (sym (position_or_len_is (λ b. not (is_digit_byte b)) c.args.text.now c.loop-i.i 0 (omega arith) c.loop-i.invariant (λ _. here)))

pub returns : goal.returns
returns c =
    sym (ap (λ (n : ℕ). take n c.args.text.now)
    (position_or_len_is (λ b. not (is_digit_byte b)) c.args.text.now (length c.args.text.now) 0 (omega arith) (λ k h. c.loop-i.invariant k (omega arith)) (λ l. absurd (omega arith)))
    ∙ take_all (length c.args.text.now) c.args.text.now (omega arith))
