use Rattle.std.proofs.Common.{None}
use Rattle.certificate_trees.specs.declared.refusals.CertRefusal.{CertRefusal}
use Rattle.certificate_trees.specs.Beginnings.{IsRefused}
use Rattle.certificate_reader.specs.LineGrammar.{HeadForm}
use Rattle.certificate_trees.proofs.WordReads.{handed_on}
use Rattle.certificate_reader.proofs.HeadReads.{start_refused, second_refused, version_refused, first_version_refused, classes_refused, matrix_refused, orders_refused}
use Rattle.certificate_reader.proofs.heads.read_head.Goals as goal

pub returns-in_err-at-clause-refused : goal.returns-in_err-at-clause-refused
returns-in_err-at-clause-refused c =
    let P : CertRefusal → Type 0 = IsRefused HeadForm None c.args.text.now 0 in
    handed_on c.from_residual.result c.in_err-at.field-0.0 P c.from_residual.ensures.1
    (start_refused c.args.text.now c.in_err-at.field-0.0 c.in_err-at.ensures.refused)

pub returns-in_err-to-clause-refused : goal.returns-in_err-to-clause-refused
returns-in_err-to-clause-refused c =
    let P : CertRefusal → Type 0 = IsRefused HeadForm None c.args.text.now 0 in
    handed_on c.from_residual-in_err-to.result c.in_err-to.field-0.0 P c.from_residual-in_err-to.ensures.1
    (second_refused c.args.text.now c.in_ok-at.at c.in_ok-at.ensures.read (c.stands_at.ensures.stands.0 (cc)) c.in_err-to.field-0.0 c.in_err-to.ensures.refused)

pub returns-in_err-at-2-clause-refused : goal.returns-in_err-at-2-clause-refused
returns-in_err-at-2-clause-refused c =
    let P : CertRefusal → Type 0 = IsRefused HeadForm None c.args.text.now 0 in
    handed_on c.from_residual-in_err-at-2.result c.in_err-at-2.field-0.0 P c.from_residual-in_err-at-2.ensures.1
    (version_refused c.args.text.now c.in_ok-at.at c.in_ok-at.ensures.read (λ e. absurd (cc (c.stands_at.ensures.stands.1 e, c.if-stands_at.false))) c.in_err-at-2.field-0.0 c.in_err-at-2.ensures.refused)

pub returns-in_err-to-2-clause-refused : goal.returns-in_err-to-2-clause-refused
returns-in_err-to-2-clause-refused c =
    let P : CertRefusal → Type 0 = IsRefused HeadForm None c.args.text.now 0 in
    handed_on c.from_residual-in_err-to-2.result c.in_err-to-2.field-0.0 P c.from_residual-in_err-to-2.ensures.1
    (first_version_refused c.args.text.now c.in_ok-at.at c.in_ok-at.ensures.read (λ e. absurd (cc (c.stands_at.ensures.stands.1 e, c.if-stands_at.false))) c.in_err-to-2.field-0.0
    (classes_refused c.args.text.now c.in_ok-at-2.at c.in_ok-at-2.ensures.read (c.stands_at-2.ensures.stands.0 (cc)) c.in_err-to-2.field-0.0 c.in_err-to-2.ensures.refused))

pub returns-in_err-to-3-clause-refused : goal.returns-in_err-to-3-clause-refused
returns-in_err-to-3-clause-refused c =
    let P : CertRefusal → Type 0 = IsRefused HeadForm None c.args.text.now 0 in
    handed_on c.from_residual-in_err-to-3.result c.in_err-to-3.field-0.0 P c.from_residual-in_err-to-3.ensures.1
    (first_version_refused c.args.text.now c.in_ok-at.at c.in_ok-at.ensures.read (λ e. absurd (cc (c.stands_at.ensures.stands.1 e, c.if-stands_at.false))) c.in_err-to-3.field-0.0
    (matrix_refused c.args.text.now c.in_ok-at-2.at c.in_ok-at-2.ensures.read (c.stands_at-3.ensures.stands.0 (cc)) c.in_err-to-3.field-0.0 c.in_err-to-3.ensures.refused))

pub returns-in_err-to-4-clause-refused : goal.returns-in_err-to-4-clause-refused
returns-in_err-to-4-clause-refused c =
    let P : CertRefusal → Type 0 = IsRefused HeadForm None c.args.text.now 0 in
    handed_on c.from_residual-in_err-to-4.result c.in_err-to-4.field-0.0 P c.from_residual-in_err-to-4.ensures.1
    (first_version_refused c.args.text.now c.in_ok-at.at c.in_ok-at.ensures.read (λ e. absurd (cc (c.stands_at.ensures.stands.1 e, c.if-stands_at.false))) c.in_err-to-4.field-0.0
    (orders_refused c.args.text.now c.in_ok-at-2.at c.in_ok-at-2.ensures.read (λ e. absurd (cc (c.stands_at-2.ensures.stands.1 e, c.if-stands_at-2.false))) (λ e. absurd (cc (c.stands_at-3.ensures.stands.1 e, c.if-stands_at-3.false))) c.in_err-to-4.field-0.0 c.in_err-to-4.ensures.refused))
