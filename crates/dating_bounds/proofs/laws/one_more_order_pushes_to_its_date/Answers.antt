use Rattle.dating_bounds.proofs.Adding.{plain_pushed}
use Rattle.dating_bounds.proofs.laws.one_more_order_pushes_to_its_date.Goals as goal

pub returns : goal.returns
returns c = λ set date order keeps none in_dates in_low in_high push. plain_pushed set.list set.extents set.dates keeps none date in_dates order in_low in_high push
