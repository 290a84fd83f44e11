use Rattle.std.proofs.Common.{None}
use Rattle.certificate_trees.specs.declared.refusals.CertRefusal.{CertRefusal}
use Rattle.certificate_trees.specs.Beginnings.{IsRefused}
use Rattle.certificate_trees.specs.LeafGrammar.{ClassLeaf}
use Rattle.certificate_trees.proofs.WordReads.{handed_on}
use Rattle.certificate_trees.proofs.LeafReads.{low_refused, dot_refused, high_refused, class_leaf_whole}
use Rattle.certificate_trees.proofs.leaves.ClassLeavesLeafForm.read_leaf.Goals as goal

pub returns-in_err-low-clause-refused : goal.returns-in_err-low-clause-refused
returns-in_err-low-clause-refused c =
    let P : CertRefusal → Type 0 = IsRefused ClassLeaf None c.args.text.now c.args.at in
    handed_on c.from_residual.result c.in_err-low.field-0.0 P c.from_residual.ensures.1
    (low_refused c.args.text.now c.args.at c.in_err-low.field-0.0 c.in_err-low.ensures.refused)

pub returns-in_err-behind-clause-refused : goal.returns-in_err-behind-clause-refused
returns-in_err-behind-clause-refused c =
    let P : CertRefusal → Type 0 = IsRefused ClassLeaf None c.args.text.now c.args.at in
    handed_on c.from_residual-in_err-behind.result c.in_err-behind.field-0.0 P c.from_residual-in_err-behind.ensures.1
    (dot_refused c.args.text.now c.args.at c.in_ok-low.low.to c.in_ok-low.ensures.whole c.in_err-behind.field-0.0 c.in_err-behind.ensures.refused)

pub returns-in_err-high-clause-refused : goal.returns-in_err-high-clause-refused
returns-in_err-high-clause-refused c =
    let P : CertRefusal → Type 0 = IsRefused ClassLeaf None c.args.text.now c.args.at in
    handed_on c.from_residual-in_err-high.result c.in_err-high.field-0.0 P c.from_residual-in_err-high.ensures.1
    (high_refused c.args.text.now c.args.at c.in_ok-low.low.to c.in_ok-behind.behind c.in_ok-low.ensures.whole c.in_ok-behind.ensures.whole c.in_err-high.field-0.0 c.in_err-high.ensures.refused)

pub returns-clause-whole : goal.returns-clause-whole
returns-clause-whole c = class_leaf_whole c.args.text.now c.args.at c.in_ok-low.low.to c.in_ok-behind.behind c.in_ok-high.high.to c.in_ok-low.ensures.whole c.in_ok-behind.ensures.whole c.in_ok-high.ensures.whole
