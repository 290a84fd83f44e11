use Rattle.std.proofs.Common.{arith, inl}
use Rattle.std.proofs.lemmas.Result.{IfErr-weaker}
use Rattle.certificate_trees.specs.LeafGrammar.{OfOrders}
use Rattle.certificate_trees.specs.Names.{bad_shared}
use Rattle.certificate_trees.specs.TreeTexts.{shared_leaf}
use Rattle.certificate_reader.specs.LineGrammar.{OrderTree}
use Rattle.certificate_trees.proofs.WordReads.{handed_on, if_ok_all}
use Rattle.certificate_trees.proofs.Steps.{word_joins}
use Rattle.certificate_trees.proofs.PartReads.{both_read, first_part, second_part, tree_read, word_read, word_refused, word_stands}
use Rattle.certificate_reader.proofs.LineForms.{order_tree_form}
use Rattle.certificate_reader.proofs.order_lines.read_order_tree.Goals as goal

pub returns-clause-read : goal.returns-clause-read
returns-clause-read c = if_ok_all c.read_tree.result c.read_tree.ensures.moves (c.read_tree.ensures.read (inl tt)) c.read_tree.ensures.stands
    (λ f m t s. both_read (word_joins c.args.word.now (OrderTree c.args.known.now.leaves.kept) (omega (arith, c.requires.flat.0, c.requires.flat.1)) (order_tree_form c.args.known.now.leaves.kept).live) 64 (word_read c.args.word.now c.requires.flat.0 64 c.args.notes.now c.in_ok-behind.ensures.read c.in_ok-behind.ensures.whole)
    (tree_read (OfOrders c.args.known.now.leaves.kept) shared_leaf (bad_shared c.args.known.now.leaves.orders c.args.known.now.leaves.kept) 64 tt m.0 t s))

pub returns-in_err-behind-clause-refused : goal.returns-in_err-behind-clause-refused
returns-in_err-behind-clause-refused c = handed_on c.from_residual.result _ _ c.from_residual.ensures.1
    (first_part (word_joins c.args.word.now (OrderTree c.args.known.now.leaves.kept) (omega (arith, c.requires.flat.0, c.requires.flat.1)) (order_tree_form c.args.known.now.leaves.kept).live) 64 (word_refused c.args.word.now c.requires.flat.0 64 c.in_err-behind.ensures.refused))

pub returns-clause-refused : goal.returns-clause-refused
returns-clause-refused c = IfErr-weaker c.read_tree.result _ _
    (λ e r. second_part (word_joins c.args.word.now (OrderTree c.args.known.now.leaves.kept) (omega (arith, c.requires.flat.0, c.requires.flat.1)) (order_tree_form c.args.known.now.leaves.kept).live) 64 (word_stands c.args.word.now c.requires.flat.0 64 c.in_ok-behind.ensures.whole) r) c.read_tree.ensures.refused
