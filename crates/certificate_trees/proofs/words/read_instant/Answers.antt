use Rattle.std.proofs.Common.{rules, arith, ◌+◌, ◌∙◌, None, sym, subst}
use mir.Syntax.{w128}
use Rattle.std.proofs.lemmas.Int.{to_z-of_z}
use Rattle.certificate_trees.specs.declared.refusals.CertRefusal.{CertRefusal}
use Rattle.certificate_trees.specs.Beginnings.{IsRefused}
use Rattle.certificate_trees.specs.Grammar.{Instant}
use Rattle.certificate_trees.proofs.Pieces.{some_number, signed_read}
use Rattle.certificate_trees.proofs.WordReads.{handed_on}
use Rattle.certificate_trees.proofs.NumberReads.{plain_instant_stopped, plain_instant_whole, signed_instant_stopped, signed_instant_whole}
use Rattle.certificate_trees.proofs.words.read_instant.Goals as goal

pub negated-requires-clause-some : goal.negated-requires-clause-some
negated-requires-clause-some c = some_number c.args.text.now (c.args.at + 1) c.in_ok-found-2.found.to c.in_ok-found-2.found.value c.in_ok-found-2.ensures.read
    (λ e. absurd (cc (c.stands_at-2.ensures.stands.1 e, c.if-stands_at.false)))

pub returns-clause-read : goal.returns-clause-read
returns-clause-read c = signed_read c.args.text.now c.args.at c.in_ok-found-2.found.to c.in_ok-found-2.found.value _ (c.stands_at.ensures.stands.0 (cc))
    (some_number c.args.text.now (c.args.at + 1) c.in_ok-found-2.found.to c.in_ok-found-2.found.value c.in_ok-found-2.ensures.read
    (λ e. absurd (cc (c.stands_at-2.ensures.stands.1 e, c.if-stands_at.false))))
    c.in_ok-found-2.ensures.read (to_z-of_z w128 c.negated.result (search (rules, c.negated.type_inv)) ∙ c.negated.ensures)

pub returns-in_err-found-clause-refused : goal.returns-in_err-found-clause-refused
returns-in_err-found-clause-refused c =
    let P : CertRefusal → Type 0 = IsRefused Instant None c.args.text.now c.args.at in
    let h = c.in_err-found.ensures.stops in
    handed_on c.from_residual.result c.in_err-found.field-0.0 P c.from_residual.ensures.1 (subst P (sym h.0)
    (plain_instant_stopped c.args.text.now c.args.at (λ e. absurd (cc (c.stands_at.ensures.stands.1 e, c.if-not-stands_at.true))) c.requires h.1))

pub returns-then-not-stands_at-clause-whole : goal.returns-then-not-stands_at-clause-whole
returns-then-not-stands_at-clause-whole c = plain_instant_whole c.args.text.now c.args.at c.in_ok-found.found.to c.in_ok-found.found.value
    (λ e. absurd (cc (c.stands_at.ensures.stands.1 e, c.if-not-stands_at.true))) c.in_ok-found.ensures.bounded c.in_ok-found.ensures.read c.in_ok-found.ensures.full

pub returns-then-stands_at-clause-refused : goal.returns-then-stands_at-clause-refused
returns-then-stands_at-clause-refused c = signed_instant_stopped c.args.text.now c.args.at (c.stands_at.ensures.stands.0 (cc))
    (omega (arith, c.stands_at.ensures.within (cc)))
    (λ x f d other. other (cc (f, c.stands_at-2.ensures.stands.0 (cc))))

pub returns-in_err-found-2-clause-refused : goal.returns-in_err-found-2-clause-refused
returns-in_err-found-2-clause-refused c =
    let P : CertRefusal → Type 0 = IsRefused Instant None c.args.text.now c.args.at in
    let h = c.in_err-found-2.ensures.stops in
    handed_on c.from_residual-in_err-found-2.result c.in_err-found-2.field-0.0 P c.from_residual-in_err-found-2.ensures.1 (subst P (sym h.0)
    (signed_instant_stopped c.args.text.now c.args.at (c.stands_at.ensures.stands.0 (cc)) (omega (arith, c.stands_at.ensures.within (cc)))
    (λ x f d other. h.1 x f d)))

pub returns-clause-whole : goal.returns-clause-whole
returns-clause-whole c = signed_instant_whole c.args.text.now c.args.at c.in_ok-found-2.found.to c.in_ok-found-2.found.value (c.stands_at.ensures.stands.0 (cc))
    (some_number c.args.text.now (c.args.at + 1) c.in_ok-found-2.found.to c.in_ok-found-2.found.value c.in_ok-found-2.ensures.read
    (λ e. absurd (cc (c.stands_at-2.ensures.stands.1 e, c.if-stands_at.false))))
    c.in_ok-found-2.ensures.bounded c.in_ok-found-2.ensures.read c.in_ok-found-2.ensures.full
