use Rattle.std.proofs.Common.{codes, refl, inr}
use Rattle.certificate_trees.proofs.Pieces.{then_read}
use Rattle.certificate_trees.proofs.WordReads.{handed_on}
use Rattle.certificate_trees.proofs.PartReads.{both_stand, first_part, second_part, word_refused, word_stands}
use Rattle.certificate_reader.proofs.ClassForms.{class_triples, classes_trees, first_tree_second, second_tree_feed, space_classes, space_second_tree, space_trees, triples_classes}
use Rattle.certificate_reader.proofs.class_lines.read_class_line.Goals as goal

pub returns-clause-read : goal.returns-clause-read
returns-clause-read c = λ u known. (rw c.class_line-line.ensures
    (then_read c.args.text.now c.args.at c.in_ok-second_tree.second_tree.to c.in_ok-to.to _ _ (then_read c.args.text.now c.args.at c.in_ok-begun.begun c.in_ok-second_tree.second_tree.to _ _ c.in_ok-begun.ensures.read (then_read c.args.text.now c.in_ok-begun.begun c.in_ok-triples.triples.to c.in_ok-second_tree.second_tree.to _ _ c.in_ok-triples.ensures.read (then_read c.args.text.now c.in_ok-triples.triples.to c.in_ok-class_at.class_at c.in_ok-second_tree.second_tree.to _ _ c.in_ok-class_at.ensures.read (then_read c.args.text.now c.in_ok-class_at.class_at c.in_ok-classes.classes.to c.in_ok-second_tree.second_tree.to _ _ (c.in_ok-classes.ensures.read known) (then_read c.args.text.now c.in_ok-classes.classes.to c.in_ok-tree_at.tree_at c.in_ok-second_tree.second_tree.to _ _ c.in_ok-tree_at.ensures.read (then_read c.args.text.now c.in_ok-tree_at.tree_at c.in_ok-first_tree.first_tree.to c.in_ok-second_tree.second_tree.to _ _ (c.in_ok-first_tree.ensures.read (inr (c.in_ok-second_tree.ensures.sticky u))).read (then_read c.args.text.now c.in_ok-first_tree.first_tree.to c.in_ok-other_at.other_at c.in_ok-second_tree.second_tree.to _ _ c.in_ok-other_at.ensures.read (c.in_ok-second_tree.ensures.read (inr u)).read))))))) c.in_ok-to.ensures.read))

pub returns-clause-stands : goal.returns-clause-stands
returns-clause-stands c = both_stand class_triples 64 (word_stands (codes "class ") refl 64 c.in_ok-begun.ensures.whole)
    (both_stand triples_classes 64 c.in_ok-triples.ensures.stands
    (both_stand space_classes 64 (word_stands (codes " ") refl 64 c.in_ok-class_at.ensures.whole)
    (both_stand classes_trees 64 c.in_ok-classes.ensures.stands
    (both_stand space_trees 64 (word_stands (codes " ") refl 64 c.in_ok-tree_at.ensures.whole)
    (both_stand first_tree_second 64 c.in_ok-first_tree.ensures.stands
    (both_stand space_second_tree 64 (word_stands (codes " ") refl 64 c.in_ok-other_at.ensures.whole)
    (both_stand second_tree_feed 64 c.in_ok-second_tree.ensures.stands
    (word_stands (codes "\n") refl 64 c.in_ok-to.ensures.whole))))))))

pub returns-in_err-begun-clause-refused : goal.returns-in_err-begun-clause-refused
returns-in_err-begun-clause-refused c = handed_on c.from_residual.result _ _ c.from_residual.ensures.1
    (first_part class_triples 64 (word_refused (codes "class ") refl 64 c.in_err-begun.ensures.refused))

pub returns-in_err-triples-clause-refused : goal.returns-in_err-triples-clause-refused
returns-in_err-triples-clause-refused c = handed_on c.from_residual-in_err-triples.result _ _ c.from_residual-in_err-triples.ensures.1
    (second_part class_triples 64 (word_stands (codes "class ") refl 64 c.in_ok-begun.ensures.whole) (first_part triples_classes 64 (c.in_err-triples.ensures.refused)))

pub returns-in_err-class_at-clause-refused : goal.returns-in_err-class_at-clause-refused
returns-in_err-class_at-clause-refused c = handed_on c.from_residual-in_err-class_at.result _ _ c.from_residual-in_err-class_at.ensures.1
    (second_part class_triples 64 (word_stands (codes "class ") refl 64 c.in_ok-begun.ensures.whole) (second_part triples_classes 64 c.in_ok-triples.ensures.stands (first_part space_classes 64 (word_refused (codes " ") refl 64 c.in_err-class_at.ensures.refused))))

pub returns-in_err-classes-clause-refused : goal.returns-in_err-classes-clause-refused
returns-in_err-classes-clause-refused c = handed_on c.from_residual-in_err-classes.result _ _ c.from_residual-in_err-classes.ensures.1
    (second_part class_triples 64 (word_stands (codes "class ") refl 64 c.in_ok-begun.ensures.whole) (second_part triples_classes 64 c.in_ok-triples.ensures.stands (second_part space_classes 64 (word_stands (codes " ") refl 64 c.in_ok-class_at.ensures.whole) (first_part classes_trees 64 (c.in_err-classes.ensures.refused)))))

pub returns-in_err-tree_at-clause-refused : goal.returns-in_err-tree_at-clause-refused
returns-in_err-tree_at-clause-refused c = handed_on c.from_residual-in_err-tree_at.result _ _ c.from_residual-in_err-tree_at.ensures.1
    (second_part class_triples 64 (word_stands (codes "class ") refl 64 c.in_ok-begun.ensures.whole) (second_part triples_classes 64 c.in_ok-triples.ensures.stands (second_part space_classes 64 (word_stands (codes " ") refl 64 c.in_ok-class_at.ensures.whole) (second_part classes_trees 64 c.in_ok-classes.ensures.stands (first_part space_trees 64 (word_refused (codes " ") refl 64 c.in_err-tree_at.ensures.refused))))))

pub returns-in_err-first_tree-clause-refused : goal.returns-in_err-first_tree-clause-refused
returns-in_err-first_tree-clause-refused c = handed_on c.from_residual-in_err-first_tree.result _ _ c.from_residual-in_err-first_tree.ensures.1
    (second_part class_triples 64 (word_stands (codes "class ") refl 64 c.in_ok-begun.ensures.whole) (second_part triples_classes 64 c.in_ok-triples.ensures.stands (second_part space_classes 64 (word_stands (codes " ") refl 64 c.in_ok-class_at.ensures.whole) (second_part classes_trees 64 c.in_ok-classes.ensures.stands (second_part space_trees 64 (word_stands (codes " ") refl 64 c.in_ok-tree_at.ensures.whole) (first_part first_tree_second 64 (c.in_err-first_tree.ensures.refused)))))))

pub returns-in_err-other_at-clause-refused : goal.returns-in_err-other_at-clause-refused
returns-in_err-other_at-clause-refused c = handed_on c.from_residual-in_err-other_at.result _ _ c.from_residual-in_err-other_at.ensures.1
    (second_part class_triples 64 (word_stands (codes "class ") refl 64 c.in_ok-begun.ensures.whole) (second_part triples_classes 64 c.in_ok-triples.ensures.stands (second_part space_classes 64 (word_stands (codes " ") refl 64 c.in_ok-class_at.ensures.whole) (second_part classes_trees 64 c.in_ok-classes.ensures.stands (second_part space_trees 64 (word_stands (codes " ") refl 64 c.in_ok-tree_at.ensures.whole) (second_part first_tree_second 64 c.in_ok-first_tree.ensures.stands (first_part space_second_tree 64 (word_refused (codes " ") refl 64 c.in_err-other_at.ensures.refused))))))))

pub returns-in_err-second_tree-clause-refused : goal.returns-in_err-second_tree-clause-refused
returns-in_err-second_tree-clause-refused c = handed_on c.from_residual-in_err-second_tree.result _ _ c.from_residual-in_err-second_tree.ensures.1
    (second_part class_triples 64 (word_stands (codes "class ") refl 64 c.in_ok-begun.ensures.whole) (second_part triples_classes 64 c.in_ok-triples.ensures.stands (second_part space_classes 64 (word_stands (codes " ") refl 64 c.in_ok-class_at.ensures.whole) (second_part classes_trees 64 c.in_ok-classes.ensures.stands (second_part space_trees 64 (word_stands (codes " ") refl 64 c.in_ok-tree_at.ensures.whole) (second_part first_tree_second 64 c.in_ok-first_tree.ensures.stands (second_part space_second_tree 64 (word_stands (codes " ") refl 64 c.in_ok-other_at.ensures.whole) (first_part second_tree_feed 64 (c.in_err-second_tree.ensures.refused)))))))))

pub returns-in_err-to-clause-refused : goal.returns-in_err-to-clause-refused
returns-in_err-to-clause-refused c = handed_on c.from_residual-in_err-to.result _ _ c.from_residual-in_err-to.ensures.1
    (second_part class_triples 64 (word_stands (codes "class ") refl 64 c.in_ok-begun.ensures.whole) (second_part triples_classes 64 c.in_ok-triples.ensures.stands (second_part space_classes 64 (word_stands (codes " ") refl 64 c.in_ok-class_at.ensures.whole) (second_part classes_trees 64 c.in_ok-classes.ensures.stands (second_part space_trees 64 (word_stands (codes " ") refl 64 c.in_ok-tree_at.ensures.whole) (second_part first_tree_second 64 c.in_ok-first_tree.ensures.stands (second_part space_second_tree 64 (word_stands (codes " ") refl 64 c.in_ok-other_at.ensures.whole) (second_part second_tree_feed 64 c.in_ok-second_tree.ensures.stands (word_refused (codes "\n") refl 64 c.in_err-to.ensures.refused)))))))))
