use Rattle.std.proofs.Common.{length}
use Rattle.order_laws.proofs.Placed.{always_follows, follows_always}
use Rattle.order_core.specs.Primitives.{points_of}
use Rattle.reason_report.proofs.Standing.{extent_of, listed_follows, follows_listed}
use Rattle.reason_report.proofs.Points.{left_within, right_within}
use Rattle.reason_report.proofs.laws.listed_primitives_always_hold.Goals as goal

pub returns : goal.returns
returns c = λ set periods a p b conditions none range in_a in_b apart. (
  λ listed. follows_always set.list set.extents set.dates (points_of p a b).0 (points_of p a b).1 (points_of p a b).2 (listed_follows set.list periods a p b listed),
  λ always. follows_listed set.list periods a p b in_a in_b apart
      (always_follows set.list set.extents set.dates conditions none (points_of p a b).0 (points_of p a b).1
      (left_within p a b set.extents (length set.dates) (extent_of set.extents periods a range in_a))
      (right_within p a b set.extents (length set.dates) (extent_of set.extents periods b range in_b))
      (points_of p a b).2 always),
)
