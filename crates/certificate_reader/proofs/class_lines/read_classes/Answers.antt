use Rattle.std.proofs.Common.{codes, refl}
use Rattle.certificate_trees.proofs.Shallow.{flat_code}
use Rattle.certificate_trees.proofs.WordReads.{handed_on}
use Rattle.certificate_trees.proofs.PartReads.{both_stand, first_part, second_part, flat_part_refused, flat_stands, word_refused, word_stands}
use Rattle.certificate_reader.proofs.ClassForms.{code_code, space_code}
use Rattle.certificate_reader.proofs.class_lines.read_classes.Goals as goal

pub returns-clause-stands : goal.returns-clause-stands
returns-clause-stands c = both_stand code_code 64 (flat_stands _ flat_code 64 c.in_ok-first.ensures.whole) (both_stand space_code 64 (word_stands (codes " ") refl 64 c.in_ok-between.ensures.whole) (flat_stands _ flat_code 64 c.in_ok-second.ensures.whole))

pub returns-in_err-first-clause-refused : goal.returns-in_err-first-clause-refused
returns-in_err-first-clause-refused c = handed_on c.from_residual.result _ _ c.from_residual.ensures.1
    (first_part code_code 64 (flat_part_refused _ flat_code 64 c.in_err-first.ensures.refused))

pub returns-in_err-between-clause-refused : goal.returns-in_err-between-clause-refused
returns-in_err-between-clause-refused c = handed_on c.from_residual-in_err-between.result _ _ c.from_residual-in_err-between.ensures.1
    (second_part code_code 64 (flat_stands _ flat_code 64 c.in_ok-first.ensures.whole) (first_part space_code 64 (word_refused (codes " ") refl 64 c.in_err-between.ensures.refused)))

pub returns-in_err-second-clause-refused : goal.returns-in_err-second-clause-refused
returns-in_err-second-clause-refused c = handed_on c.from_residual-in_err-second.result _ _ c.from_residual-in_err-second.ensures.1
    (second_part code_code 64 (flat_stands _ flat_code 64 c.in_ok-first.ensures.whole) (second_part space_code 64 (word_stands (codes " ") refl 64 c.in_ok-between.ensures.whole) (flat_part_refused _ flat_code 64 c.in_err-second.ensures.refused)))
