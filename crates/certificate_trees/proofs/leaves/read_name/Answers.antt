use Rattle.std.proofs.Common.{None}
use Rattle.certificate_trees.specs.declared.refusals.CertRefusal.{CertRefusal}
use Rattle.certificate_trees.specs.Beginnings.{IsRefused}
use Rattle.certificate_trees.specs.Grammar.{Name}
use Rattle.certificate_trees.proofs.WordReads.{handed_on}
use Rattle.certificate_trees.proofs.NumberReads.{letter_refused, name_refused, name_whole, name_read}
use Rattle.certificate_trees.proofs.leaves.read_name.Goals as goal

pub returns-then-not-stands_at-clause-refused : goal.returns-then-not-stands_at-clause-refused
returns-then-not-stands_at-clause-refused c = letter_refused c.args.text.now c.args.at c.args.letter c.requires (λ e. absurd (cc (c.stands_at.ensures.stands.1 e, c.if-not-stands_at.true)))

pub returns-in_err-found-clause-refused : goal.returns-in_err-found-clause-refused
returns-in_err-found-clause-refused c =
    let P : CertRefusal → Type 0 = IsRefused (Name c.args.letter) None c.args.text.now c.args.at in
    handed_on c.from_residual.result c.in_err-found.field-0.0 P c.from_residual.ensures.1
    (name_refused c.args.text.now c.args.at c.args.letter (c.stands_at.ensures.stands.0 (cc)) c.in_err-found.field-0.0 c.in_err-found.ensures.refused)

pub returns-then-found-limit-clause-read : goal.returns-then-found-limit-clause-read
returns-then-found-limit-clause-read c = name_read c.args.text.now c.args.at c.in_ok-found.found.to c.args.letter c.in_ok-found.found.value (c.stands_at.ensures.stands.0 (cc)) c.in_ok-found.ensures.read

pub returns-then-found-limit-clause-whole : goal.returns-then-found-limit-clause-whole
returns-then-found-limit-clause-whole c = name_whole c.args.text.now c.args.at c.in_ok-found.found.to c.args.letter (c.stands_at.ensures.stands.0 (cc)) c.in_ok-found.ensures.whole

pub returns-else-found-limit-clause-read : goal.returns-else-found-limit-clause-read
returns-else-found-limit-clause-read c = name_read c.args.text.now c.args.at c.in_ok-found.found.to c.args.letter c.in_ok-found.found.value (c.stands_at.ensures.stands.0 (cc)) c.in_ok-found.ensures.read

pub returns-else-found-limit-clause-whole : goal.returns-else-found-limit-clause-whole
returns-else-found-limit-clause-whole c = name_whole c.args.text.now c.args.at c.in_ok-found.found.to c.args.letter (c.stands_at.ensures.stands.0 (cc)) c.in_ok-found.ensures.whole
