use Rattle.std.proofs.Common.{None, subst, sym}
use Rattle.certificate_trees.specs.declared.refusals.CertRefusal.{CertRefusal}
use Rattle.certificate_trees.specs.Beginnings.{IsRefused}
use Rattle.certificate_trees.specs.Grammar.{Number}
use Rattle.certificate_trees.proofs.WordReads.{handed_on}
use Rattle.certificate_trees.proofs.NumberReads.{plain_stopped, plain_whole}
use Rattle.certificate_trees.proofs.words.read_number.Goals as goal

pub returns-in_err-found-clause-refused : goal.returns-in_err-found-clause-refused
returns-in_err-found-clause-refused c =
    let P : CertRefusal → Type 0 = IsRefused Number None c.args.text.now c.args.at in
    let h = c.in_err-found.ensures.stops in
    handed_on c.from_residual.result c.in_err-found.field-0.0 P c.from_residual.ensures.1 (subst P (sym h.0) (plain_stopped c.args.text.now c.args.at c.requires h.1))

pub returns-clause-whole : goal.returns-clause-whole
returns-clause-whole c = plain_whole c.args.text.now c.args.at c.in_ok-found.found.to c.in_ok-found.found.value c.in_ok-found.ensures.bounded c.in_ok-found.ensures.read c.in_ok-found.ensures.full
