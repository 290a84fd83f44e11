use Rattle.std.proofs.Common.{codes, inl, refl}
use Rattle.std.specs.Prelude.{None}
use Rattle.certificate_trees.specs.LeafGrammar.{OfOrders}
use Rattle.certificate_trees.specs.Names.{bad_shared}
use Rattle.certificate_trees.specs.TreeTexts.{shared_leaf}
use Rattle.certificate_trees.proofs.WordReads.{handed_on}
use Rattle.certificate_trees.proofs.PartReads.{both_read, first_part, second_part, tree_read, word_read, word_refused, word_stands}
use Rattle.certificate_reader.proofs.MatrixForms.{cover_extents, extents_orders, space_orders}
use Rattle.certificate_reader.proofs.matrix_lines.read_cover.Goals as goal

pub returns-clause-read : goal.returns-clause-read
returns-clause-read c = both_read cover_extents 64 (word_read (codes "cover ") refl 64 c.args.notes.now c.in_ok-begun.ensures.read c.in_ok-begun.ensures.whole)
    (both_read extents_orders 64 c.in_ok-pair.ensures.read (both_read space_orders 64 (word_read (codes " ") refl 64 c.read_extents.new.notes c.in_ok-behind.ensures.read c.in_ok-behind.ensures.whole)
    (tree_read (OfOrders None) shared_leaf (bad_shared c.args.known.now.orders None) 64 tt c.in_ok-tree.ensures.moves.0 (c.in_ok-tree.ensures.read (inl tt)) c.in_ok-tree.ensures.stands)))

pub returns-in_err-begun-clause-refused : goal.returns-in_err-begun-clause-refused
returns-in_err-begun-clause-refused c = handed_on c.from_residual.result _ _ c.from_residual.ensures.1
    (first_part cover_extents 64 (word_refused (codes "cover ") refl 64 c.in_err-begun.ensures.refused))

pub returns-in_err-pair-clause-refused : goal.returns-in_err-pair-clause-refused
returns-in_err-pair-clause-refused c = handed_on c.from_residual-in_err-pair.result _ _ c.from_residual-in_err-pair.ensures.1
    (second_part cover_extents 64 (word_stands (codes "cover ") refl 64 c.in_ok-begun.ensures.whole) (first_part extents_orders 64 (c.in_err-pair.ensures.refused)))

pub returns-in_err-behind-clause-refused : goal.returns-in_err-behind-clause-refused
returns-in_err-behind-clause-refused c = handed_on c.from_residual-in_err-behind.result _ _ c.from_residual-in_err-behind.ensures.1
    (second_part cover_extents 64 (word_stands (codes "cover ") refl 64 c.in_ok-begun.ensures.whole) (second_part extents_orders 64 c.in_ok-pair.ensures.read.stands (first_part space_orders 64 (word_refused (codes " ") refl 64 c.in_err-behind.ensures.refused))))

pub returns-in_err-tree-clause-refused : goal.returns-in_err-tree-clause-refused
returns-in_err-tree-clause-refused c = handed_on c.from_residual-in_err-tree.result _ _ c.from_residual-in_err-tree.ensures.1
    (second_part cover_extents 64 (word_stands (codes "cover ") refl 64 c.in_ok-begun.ensures.whole) (second_part extents_orders 64 c.in_ok-pair.ensures.read.stands (second_part space_orders 64 (word_stands (codes " ") refl 64 c.in_ok-behind.ensures.whole) (c.in_err-tree.ensures.refused))))
