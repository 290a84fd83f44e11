use Rattle.std.proofs.Common.{◌∙◌}
use Rattle.order_analysis.proofs.Listed.{found_in}
use Rattle.order_analysis.proofs.analysis.Analysis.period.Goals as goal

pub returns-clause-within : goal.returns-clause-within
returns-clause-within c =
    rw (← c.self.view_is)
    (found_in c.self.inside.set.now.extents c.self.inside.periods.now c.args.i c.copied.result c.self.invariant.within (c.copied.ensures ∙ c.get.ensures))
