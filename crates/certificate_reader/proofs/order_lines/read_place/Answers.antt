use Rattle.std.proofs.Common.{codes, refl}
use Rattle.certificate_trees.proofs.WordReads.{handed_on}
use Rattle.certificate_trees.proofs.Steps.{both}
use Rattle.certificate_trees.proofs.PartReads.{first_part, second_part, flat_part_refused, flat_stands, word_refused, word_stands}
use Rattle.certificate_reader.proofs.OrderForms.{flat_place, flat_positions_line, place_positions}
use Rattle.certificate_reader.proofs.PositionReads.{place_line}
use Rattle.certificate_reader.proofs.order_lines.read_place.Goals as goal

pub returns-clause-stands : goal.returns-clause-stands
returns-clause-stands c = flat_stands _ flat_place 64 (both place_positions c.in_ok-behind.ensures.whole c.in_ok-placing.ensures.whole)

pub returns-in_err-behind-clause-refused : goal.returns-in_err-behind-clause-refused
returns-in_err-behind-clause-refused c = handed_on c.from_residual.result _ _ c.from_residual.ensures.1
    (first_part place_line 64 (word_refused (codes "place") refl 64 c.in_err-behind.ensures.refused))

pub returns-in_err-placing-clause-refused : goal.returns-in_err-placing-clause-refused
returns-in_err-placing-clause-refused c = handed_on c.from_residual-in_err-placing.result _ _ c.from_residual-in_err-placing.ensures.1
    (second_part place_line 64 (word_stands (codes "place") refl 64 c.in_ok-behind.ensures.whole) (flat_part_refused _ flat_positions_line 64 c.in_err-placing.ensures.refused))
