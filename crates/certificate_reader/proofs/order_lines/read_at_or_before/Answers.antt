use Rattle.std.proofs.Common.{arith, codes, inl, refl}
use Rattle.certificate_trees.specs.LeafGrammar.{OfOrders}
use Rattle.certificate_trees.specs.Names.{bad_shared}
use Rattle.certificate_trees.specs.TreeTexts.{shared_leaf}
use Rattle.certificate_trees.proofs.WordReads.{handed_on}
use Rattle.certificate_trees.proofs.PartReads.{both_read, first_part, second_part, flat_part_refused, name_read, tree_read, word_read, word_refused, word_stands}
use Rattle.certificate_reader.proofs.OrderForms.{flat_placing, le_tree, space_placing, tree_placing}
use Rattle.certificate_reader.proofs.order_lines.read_at_or_before.Goals as goal

pub returns-clause-read : goal.returns-clause-read
returns-clause-read c = both_read (le_tree c.args.known.now.leaves.kept) 64 (word_read (codes "le ") refl 64 c.args.notes.now c.in_ok-behind.ensures.read c.in_ok-behind.ensures.whole)
    (both_read (tree_placing c.args.known.now.leaves.kept) 64 (tree_read (OfOrders c.args.known.now.leaves.kept) shared_leaf (bad_shared c.args.known.now.leaves.orders c.args.known.now.leaves.kept) 64 tt c.in_ok-tree.ensures.moves.0 (c.in_ok-tree.ensures.read (inl tt)) c.in_ok-tree.ensures.stands)
    (both_read space_placing 64 (word_read (codes " ") refl 64 c.read_tree.new.notes c.in_ok-between.ensures.read c.in_ok-between.ensures.whole) (name_read 112 c.args.known.now.placings c.in_ok-placing.placing.value (λ e. omega (arith, e)) 64 c.read_tree.new.notes c.read_name.new.notes c.in_ok-placing.ensures.read c.in_ok-placing.ensures.whole c.in_ok-placing.ensures.places c.in_ok-placing.ensures.noted)))

pub returns-in_err-behind-clause-refused : goal.returns-in_err-behind-clause-refused
returns-in_err-behind-clause-refused c = handed_on c.from_residual.result _ _ c.from_residual.ensures.1
    (first_part (le_tree c.args.known.now.leaves.kept) 64 (word_refused (codes "le ") refl 64 c.in_err-behind.ensures.refused))

pub returns-in_err-tree-clause-refused : goal.returns-in_err-tree-clause-refused
returns-in_err-tree-clause-refused c = handed_on c.from_residual-in_err-tree.result _ _ c.from_residual-in_err-tree.ensures.1
    (second_part (le_tree c.args.known.now.leaves.kept) 64 (word_stands (codes "le ") refl 64 c.in_ok-behind.ensures.whole) (first_part (tree_placing c.args.known.now.leaves.kept) 64 (c.in_err-tree.ensures.refused)))

pub returns-in_err-between-clause-refused : goal.returns-in_err-between-clause-refused
returns-in_err-between-clause-refused c = handed_on c.from_residual-in_err-between.result _ _ c.from_residual-in_err-between.ensures.1
    (second_part (le_tree c.args.known.now.leaves.kept) 64 (word_stands (codes "le ") refl 64 c.in_ok-behind.ensures.whole) (second_part (tree_placing c.args.known.now.leaves.kept) 64 c.in_ok-tree.ensures.stands (first_part space_placing 64 (word_refused (codes " ") refl 64 c.in_err-between.ensures.refused))))

pub returns-in_err-placing-clause-refused : goal.returns-in_err-placing-clause-refused
returns-in_err-placing-clause-refused c = handed_on c.from_residual-in_err-placing.result _ _ c.from_residual-in_err-placing.ensures.1
    (second_part (le_tree c.args.known.now.leaves.kept) 64 (word_stands (codes "le ") refl 64 c.in_ok-behind.ensures.whole) (second_part (tree_placing c.args.known.now.leaves.kept) 64 c.in_ok-tree.ensures.stands (second_part space_placing 64 (word_stands (codes " ") refl 64 c.in_ok-between.ensures.whole) (flat_part_refused _ flat_placing 64 c.in_err-placing.ensures.refused))))
