use Rattle.std.proofs.Common.{arith, codes, refl}
use Rattle.certificate_trees.proofs.WordReads.{handed_on}
use Rattle.certificate_trees.proofs.PartReads.{both_read, first_part, second_part, flat_part_refused, name_read, word_read, word_refused, word_stands}
use Rattle.certificate_reader.proofs.OrderForms.{flat_placing, no_placing}
use Rattle.certificate_reader.proofs.order_lines.read_lack.Goals as goal

pub returns-clause-read : goal.returns-clause-read
returns-clause-read c = both_read no_placing 64 (word_read (codes "no ") refl 64 c.args.notes.now c.in_ok-behind.ensures.read c.in_ok-behind.ensures.whole)
    (name_read 112 c.args.known.now.placings c.in_ok-placing.placing.value (λ e. omega (arith, e)) 64 c.args.notes.now c.read_name.new.notes c.in_ok-placing.ensures.read c.in_ok-placing.ensures.whole c.in_ok-placing.ensures.places c.in_ok-placing.ensures.noted)

pub returns-in_err-behind-clause-refused : goal.returns-in_err-behind-clause-refused
returns-in_err-behind-clause-refused c = handed_on c.from_residual.result _ _ c.from_residual.ensures.1
    (first_part no_placing 64 (word_refused (codes "no ") refl 64 c.in_err-behind.ensures.refused))

pub returns-in_err-placing-clause-refused : goal.returns-in_err-placing-clause-refused
returns-in_err-placing-clause-refused c = handed_on c.from_residual-in_err-placing.result _ _ c.from_residual-in_err-placing.ensures.1
    (second_part no_placing 64 (word_stands (codes "no ") refl 64 c.in_ok-behind.ensures.whole) (flat_part_refused _ flat_placing 64 c.in_err-placing.ensures.refused))
