use Rattle.std.proofs.Common.{rules, ◌≡◌, None, Some}
use Rattle.std.specs.Prelude.{slice_get}
use Rattle.certificate_trees.specs.declared.refusals.CertRefusal.{CertRefusal}
use Rattle.certificate_trees.specs.Beginnings.{IsRefused}
use Rattle.certificate_trees.specs.LeafGrammar.{OrderLeaf}
use Rattle.certificate_trees.proofs.WordReads.{handed_on}
use Rattle.certificate_trees.proofs.LeafReads.{earlier_whole, earlier_refused, order_leaf_whole, order_leaf_refused}
use Rattle.certificate_trees.proofs.leaves.OrderLeavesLeafForm.read_leaf.Goals.{in_default-via-in-None-1, in_default-via-in-Some+else-stands_at}
use Rattle.certificate_trees.proofs.leaves.OrderLeavesLeafForm.read_leaf.Goals as goal

pub returns-in_err-found-clause-refused : goal.returns-in_err-found-clause-refused
returns-in_err-found-clause-refused c =
    let P : CertRefusal → Type 0 = IsRefused (OrderLeaf c.args.self.now.kept) None c.args.text.now c.args.at in
    handed_on c.from_residual.result c.in_err-found.field-0.0 P c.from_residual.ensures.1
    (earlier_refused c.args.text.now c.args.at c.args.self.now.kept c.in-Some.kept c.in-Some.is (c.stands_at.ensures.stands.0 (cc)) c.in_err-found.field-0.0 c.in_err-found.ensures.refused)

pub returns-clause-whole : goal.returns-clause-whole
returns-clause-whole c = earlier_whole c.args.text.now c.args.at c.in_ok-found.found.to c.args.self.now.kept c.in-Some.kept c.in-Some.is (c.stands_at.ensures.stands.0 (cc)) c.in_ok-found.ensures.whole

pub returns-in_err-found-2-clause-refused : goal.returns-in_err-found-2-clause-refused
returns-in_err-found-2-clause-refused c =
    let P : CertRefusal → Type 0 = IsRefused (OrderLeaf c.args.self.now.kept) None c.args.text.now c.args.at in
    let no_letter : slice_get c.args.text.now c.args.at ≡ Some 108 → c.args.self.now.kept ≡ None = elim c.in_default.branch [
      | in_default-via-in-None-1 w ↦ λ e. search rules
      | in_default-via-in-Some+else-stands_at w ↦ λ e. absurd (cc (w.stands_at.ensures.stands.1 e, w.if-stands_at.false))
    ] in
    handed_on c.from_residual-in_err-found-2.result c.in_err-found-2.field-0.0 P c.from_residual-in_err-found-2.ensures.1
    (order_leaf_refused c.args.text.now c.args.at c.args.self.now.kept no_letter c.in_err-found-2.field-0.0 c.in_err-found-2.ensures.refused)

pub returns-2-clause-whole : goal.returns-2-clause-whole
returns-2-clause-whole c =
    let no_letter : slice_get c.args.text.now c.args.at ≡ Some 108 → c.args.self.now.kept ≡ None = elim c.in_default.branch [
      | in_default-via-in-None-1 w ↦ λ e. search rules
      | in_default-via-in-Some+else-stands_at w ↦ λ e. absurd (cc (w.stands_at.ensures.stands.1 e, w.if-stands_at.false))
    ] in
    order_leaf_whole c.args.text.now c.args.at c.in_ok-found-2.found.to c.args.self.now.kept no_letter c.in_ok-found-2.ensures.whole
