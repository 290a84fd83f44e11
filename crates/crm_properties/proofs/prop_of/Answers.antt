use Rattle.std.proofs.Common.{◌≡◌, ◌<◌, ℕ, arith, List, sym, ◌∙◌, ap}
use Rattle.crm_properties.specs.declared.Space.{Space}
use Rattle.crm_properties.specs.Names.{name_of}
use Rattle.crm_properties.proofs.Finding.{prop_found, inverse_found, nothing_found}
use Rattle.crm_properties.proofs.prop_of.Goals as goal

pub returns-then-number-ge-COUNT : goal.returns-then-number-ge-COUNT
returns-then-number-ge-COUNT c =
    sym (nothing_found c.args.iri.now c.name_of_iri-name.result.space c.name_of_iri-name.result.text.now c.candidate-number.result
    (c.name_of_iri-name.ensures.space ∙ ap (λ (t : List ℕ). (name_of t).space) c.as_bytes.ensures.value)
    (c.name_of_iri-name.ensures.text ∙ ap (λ (t : List ℕ). (name_of t).text) c.as_bytes.ensures.value)
    c.candidate-number.ensures (λ l. absurd (omega arith)) (λ l. absurd (omega arith)))

pub returns-then-is_of : goal.returns-then-is_of
returns-then-is_of c =
    sym (prop_found c.args.iri.now c.name_of_iri-name.result.space c.name_of_iri-name.result.text.now c.candidate-number.result
    (c.name_of_iri-name.ensures.space ∙ ap (λ (t : List ℕ). (name_of t).space) c.as_bytes.ensures.value)
    (c.name_of_iri-name.ensures.text ∙ ap (λ (t : List ℕ). (name_of t).text) c.as_bytes.ensures.value)
    c.candidate-number.ensures (omega arith) (sym c.is_of.ensures ∙ c.if-is_of.true))

pub returns-then-is_inverse_of : goal.returns-then-is_inverse_of
returns-then-is_inverse_of c =
    sym (inverse_found c.args.iri.now c.name_of_iri-name.result.space c.name_of_iri-name.result.text.now c.candidate-number.result
    (c.name_of_iri-name.ensures.space ∙ ap (λ (t : List ℕ). (name_of t).space) c.as_bytes.ensures.value)
    (c.name_of_iri-name.ensures.text ∙ ap (λ (t : List ℕ). (name_of t).text) c.as_bytes.ensures.value)
    c.candidate-number.ensures (omega arith) (sym c.is_of.ensures ∙ c.if-is_of.false) (sym c.is_inverse_of.ensures ∙ c.if-is_inverse_of.true))

pub returns : goal.returns
returns c =
    sym (nothing_found c.args.iri.now c.name_of_iri-name.result.space c.name_of_iri-name.result.text.now c.candidate-number.result
    (c.name_of_iri-name.ensures.space ∙ ap (λ (t : List ℕ). (name_of t).space) c.as_bytes.ensures.value)
    (c.name_of_iri-name.ensures.text ∙ ap (λ (t : List ℕ). (name_of t).text) c.as_bytes.ensures.value)
    c.candidate-number.ensures (λ l. sym c.is_of.ensures ∙ c.if-is_of.false) (λ l. sym c.is_inverse_of.ensures ∙ c.if-is_inverse_of.false))
