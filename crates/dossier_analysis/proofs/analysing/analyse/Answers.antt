use Rattle.std.proofs.Common.{ℕ, List, length, ap, arith}
use Rattle.dossier_analysis.proofs.analysing.analyse.Goals as goal

pub build-requires-clause-within : goal.build-requires-clause-within
build-requires-clause-within c = rw (c.orders.ensures, c.periods.ensures, c.conditions.ensures.counted) (λ k d h. c.conditions.ensures.within k d h)

pub build-requires-clause-few : goal.build-requires-clause-few
build-requires-clause-few c = omega (arith, ap (λ (ps : List ℕ). length ps) c.periods.ensures, c.conditions.ensures.few_periods)

pub returns-clause-subject : goal.returns-clause-subject
returns-clause-subject c = rw (c.orders.ensures, c.periods.ensures) at c.build.ensures
