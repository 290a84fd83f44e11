use Rattle.std.proofs.Common.{ℕ, arith, bytes_eq, sym, ◌∙◌, ap}
use Rattle.crm_classes.specs.Classes.{code_text}
use Rattle.crm_classes.proofs.Codes.{found, not_found}
use Rattle.crm_classes.proofs.class_of_bytes.Goals as goal

pub returns-then-number-ge-COUNT : goal.returns-then-number-ge-COUNT
returns-then-number-ge-COUNT c = sym (not_found c.args.code.now (λ l. absurd (omega (arith, c.candidate-number.ensures))))

pub returns-then-eq : goal.returns-then-eq
returns-then-eq c =
    let here = ap (bytes_eq c.args.code.now) (sym (c.as_bytes.ensures.value ∙ c.code.ensures)) ∙ sym c.eq.ensures ∙ c.if-eq.true in
    sym (found c.args.code.now c.candidate-number.result (omega arith) (sym c.candidate-number.ensures) here)

pub returns-else-eq : goal.returns-else-eq
returns-else-eq c =
    let differs = ap (bytes_eq c.args.code.now) (sym (c.as_bytes.ensures.value ∙ c.code.ensures)) ∙ sym c.eq.ensures ∙ c.if-eq.false in
    sym (not_found c.args.code.now (λ l. ap (λ (n : ℕ). bytes_eq c.args.code.now (code_text n)) (sym c.candidate-number.ensures) ∙ differs))
