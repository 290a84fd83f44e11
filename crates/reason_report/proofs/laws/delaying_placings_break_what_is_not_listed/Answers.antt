use Rattle.std.proofs.Common.{length}
use Rattle.order_laws.proofs.Placed.{delaying_satisfies}
use Rattle.order_core.specs.Primitives.{points_of}
use Rattle.reason_report.proofs.Broken.{breaks}
use Rattle.reason_report.proofs.Standing.{extent_of, follows_listed}
use Rattle.reason_report.proofs.Points.{left_within, right_within}
use Rattle.reason_report.proofs.laws.delaying_placings_break_what_is_not_listed.Goals as goal

pub returns-clause-satisfied : goal.returns-clause-satisfied
returns-clause-satisfied c = λ set periods a p b conditions none range in_a.
    delaying_satisfies set.list set.extents set.dates conditions none (points_of p a b).0
    (left_within p a b set.extents (length set.dates) (extent_of set.extents periods a range in_a))

pub returns-clause-broken : goal.returns-clause-broken
returns-clause-broken c = λ set periods a p b conditions none range in_a in_b apart missing.
    breaks set.list set.extents set.dates conditions none (points_of p a b).0 (points_of p a b).1
    (left_within p a b set.extents (length set.dates) (extent_of set.extents periods a range in_a))
    (right_within p a b set.extents (length set.dates) (extent_of set.extents periods b range in_b))
    (points_of p a b).2 (λ f. missing (follows_listed set.list periods a p b in_a in_b apart f))
