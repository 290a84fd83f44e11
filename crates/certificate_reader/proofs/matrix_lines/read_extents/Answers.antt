use Rattle.std.proofs.Common.{arith, codes, refl}
use Rattle.certificate_trees.proofs.WordReads.{handed_on}
use Rattle.certificate_trees.proofs.PartReads.{both_read, first_part, second_part, flat_part_refused, flat_stands, name_read, word_read, word_refused, word_stands}
use Rattle.certificate_reader.proofs.LineForms.{flat_extent}
use Rattle.certificate_reader.proofs.MatrixForms.{extent_extent, space_extent}
use Rattle.certificate_reader.proofs.matrix_lines.read_extents.Goals as goal

pub returns-clause-read : goal.returns-clause-read
returns-clause-read c = both_read extent_extent 64 (name_read 120 c.args.extents c.in_ok-first.first.value (λ e. omega (arith, e)) 64 c.args.notes.now c.read_name.new.notes c.in_ok-first.ensures.read c.in_ok-first.ensures.whole c.in_ok-first.ensures.places c.in_ok-first.ensures.noted)
    (both_read space_extent 64 (word_read (codes " ") refl 64 c.read_name.new.notes c.in_ok-between.ensures.read c.in_ok-between.ensures.whole) (name_read 120 c.args.extents c.in_ok-second.second.value (λ e. omega (arith, e)) 64 c.read_name.new.notes c.read_name-2.new.notes c.in_ok-second.ensures.read c.in_ok-second.ensures.whole c.in_ok-second.ensures.places c.in_ok-second.ensures.noted))

pub returns-in_err-first-clause-refused : goal.returns-in_err-first-clause-refused
returns-in_err-first-clause-refused c = handed_on c.from_residual.result _ _ c.from_residual.ensures.1
    (first_part extent_extent 64 (flat_part_refused _ flat_extent 64 c.in_err-first.ensures.refused))

pub returns-in_err-between-clause-refused : goal.returns-in_err-between-clause-refused
returns-in_err-between-clause-refused c = handed_on c.from_residual-in_err-between.result _ _ c.from_residual-in_err-between.ensures.1
    (second_part extent_extent 64 (flat_stands _ flat_extent 64 c.in_ok-first.ensures.whole) (first_part space_extent 64 (word_refused (codes " ") refl 64 c.in_err-between.ensures.refused)))

pub returns-in_err-second-clause-refused : goal.returns-in_err-second-clause-refused
returns-in_err-second-clause-refused c = handed_on c.from_residual-in_err-second.result _ _ c.from_residual-in_err-second.ensures.1
    (second_part extent_extent 64 (flat_stands _ flat_extent 64 c.in_ok-first.ensures.whole) (second_part space_extent 64 (word_stands (codes " ") refl 64 c.in_ok-between.ensures.whole) (flat_part_refused _ flat_extent 64 c.in_err-second.ensures.refused)))
