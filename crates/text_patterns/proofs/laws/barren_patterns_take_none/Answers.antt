use Rattle.text_patterns.proofs.Barren.{barren-none, barren-some}
use Rattle.text_patterns.proofs.laws.barren_patterns_take_none.Goals as goal

pub returns-clause-none : goal.returns-clause-none
returns-clause-none c = barren-none

pub returns-clause-only : goal.returns-clause-only
returns-clause-only c = barren-some
