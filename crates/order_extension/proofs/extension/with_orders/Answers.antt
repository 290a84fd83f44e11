use Rattle.std.proofs.Common.{◌≡◌, ◌++◌, rules}
use Rattle.order_extension.proofs.Further.{further_is_set}
use Rattle.order_extension.proofs.extension.with_orders.Goals as goal

is_joined : (c : goal.After-from_vec-2) → c.from_vec-2.result ≡ c.args.set.now.list ++ c.args.more
is_joined c = search rules

is_dates : (c : goal.After-from_vec-2) → c.from_vec.result ≡ c.args.set.now.dates
is_dates c = search rules

pub new-requires-clause-orders : goal.new-requires-clause-orders
new-requires-clause-orders c =
    rw (is_dates c, is_joined c, c.extents.ensures) (further_is_set c.args.set.now.extents c.args.set.now.dates c.args.set.now.list c.args.more c.conditions.ensures.orders c.requires.in_range)
