use Rattle.std.proofs.Common.{◌≡◌, ◌++◌, ℕ, arith, subst}
use Rattle.order_laws.specs.Tables.{boundaries, date_points}
use Rattle.order_conflicts.proofs.Ranges.{listed_within}
use Rattle.order_conflicts.proofs.points.list_points.Goals as goal

pub returns-clause-within : goal.returns-clause-within
returns-clause-within c =
    let P : ℕ → Type 0 = λ d. c.loop-date.points.items ≡ boundaries c.args.extents ++ date_points d in
    let done : c.loop-date.date ≡ c.args.dates = omega arith in
    listed_within c.loop-date.points.items c.args.extents c.args.dates (subst P done c.loop-date.invariant)
