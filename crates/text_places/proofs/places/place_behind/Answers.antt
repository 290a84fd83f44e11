use Rattle.std.proofs.Common.{arith, ap, sym, ◌∙◌}
use Rattle.text_places.specs.declared.places.Place.{Place}
use Rattle.text_places.specs.Places.{is_counted}
use Rattle.text_places.proofs.Counting.{at_most_one, line_within, column_within, place_ended, place_going}
use Rattle.text_places.proofs.places.place_behind.Goals as goal

pub overflow_add-result : goal.overflow_add-result
overflow_add-result c = omega (arith, line_within c.args.bytes.now c.args.k, ap (λ (q : Place). q.line) c.requires.here)

pub overflow_add-result-else-ends_line : goal.overflow_add-result-else-ends_line
overflow_add-result-else-ends_line c =
    omega (arith, column_within c.args.bytes.now c.args.k, ap (λ (q : Place). q.column) c.requires.here, at_most_one (is_counted c.args.bytes.now c.args.k), c.width.ensures)

pub returns-then-ends_line : goal.returns-then-ends_line
returns-then-ends_line c = place_ended c.args.bytes.now c.args.k c.args.place c.requires.here (sym c.ends_line.ensures ∙ c.if-ends_line.true)

pub returns-else-ends_line : goal.returns-else-ends_line
returns-else-ends_line c =
    place_going c.args.bytes.now c.args.k c.width.result c.args.place c.requires.here c.width.ensures (sym c.ends_line.ensures ∙ c.if-ends_line.false)
