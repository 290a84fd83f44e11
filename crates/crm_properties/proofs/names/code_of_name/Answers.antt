use Rattle.std.proofs.Common.{◌≡◌, ℕ, nat_eq, take, length, ap, sym, ◌∙◌, arith, false}
use Rattle.std.specs.List.{position_or_len}
use Rattle.std.proofs.lemmas.Bool.{eq-eqb}
use Rattle.std.proofs.lemmas.List.{take_all}
use Rattle.std.proofs.lemmas.List.Sums.{position_or_len_is}
use Rattle.crm_properties.proofs.names.code_of_name.Goals as goal

pub returns-then-b-eq95 : goal.returns-then-b-eq95
returns-then-b-eq95 c =
    ap (λ (n : ℕ). take n c.args.text.now)
    (sym (position_or_len_is (λ b. nat_eq b 95) c.args.text.now c.loop-i.i 0 (omega arith) c.loop-i.invariant (λ _. eq-eqb _ 95 c.if-b-eq95.true)))

pub returns : goal.returns
returns c =
    sym (ap (λ (n : ℕ). take n c.args.text.now)
    (position_or_len_is (λ b. nat_eq b 95) c.args.text.now (length c.args.text.now) 0 (omega arith) (λ k h. c.loop-i.invariant k (omega arith)) (λ l. absurd (omega arith)))
    ∙ take_all (length c.args.text.now) c.args.text.now (omega arith))
