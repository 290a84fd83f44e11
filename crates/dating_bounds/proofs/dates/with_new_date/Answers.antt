use Rattle.std.proofs.Common.{◌≡◌, ℤ, List, length, arith, rules, ap, ◌∙◌}
use Rattle.dating_bounds.specs.Dated.{place_of, inserted}
use Rattle.dating_bounds.proofs.Moving.{place_within, length-inserted, inserted_instants, earlier_dates, later_date}
use Rattle.dating_bounds.proofs.Dating.{inserted_is_set, length-inserted_list}
use Rattle.dating_bounds.proofs.dates.with_new_date.Goals as goal

is_dates : (c : goal.After-from_vec-2) → c.from_vec.result ≡ (inserted c.args.set.now (place_of c.args.set.now.dates c.args.t) c.args.t).dates
is_dates c = search rules

is_list : (c : goal.After-from_vec-2) → c.from_vec-2.result ≡ (inserted c.args.set.now (place_of c.args.set.now.dates c.args.t) c.args.t).list
is_list c = search rules

pub new-requires-clause-few_dates : goal.new-requires-clause-few_dates
new-requires-clause-few_dates c =
    rw (is_dates c) (omega (arith, c.requires.few_dates, length-inserted c.args.set.now.dates (place_of c.args.set.now.dates c.args.t) c.args.t (place_within c.args.set.now.dates c.args.t)))

pub new-requires-clause-few_orders : goal.new-requires-clause-few_orders
new-requires-clause-few_orders c =
    rw (is_list c) (omega (arith, c.requires.few_orders, length-inserted_list c.args.set.now.list (place_of c.args.set.now.dates c.args.t) (length c.args.set.now.dates)))

pub new-requires-clause-instants : goal.new-requires-clause-instants
new-requires-clause-instants c =
    rw (is_dates c) (inserted_instants c.args.set.now.dates (place_of c.args.set.now.dates c.args.t) c.args.t (place_within c.args.set.now.dates c.args.t)
    c.conditions.ensures.instants c.requires.after c.requires.before)

pub new-requires-clause-orders : goal.new-requires-clause-orders
new-requires-clause-orders c =
    rw (is_dates c, is_list c, c.extents.ensures) (inserted_is_set c.args.set.now.extents c.args.set.now.dates c.args.set.now.list c.conditions.ensures.orders
    (place_of c.args.set.now.dates c.args.t) c.args.t (place_within c.args.set.now.dates c.args.t) (earlier_dates c.args.set.now.dates c.args.t) (later_date c.args.set.now.dates c.args.t c.requires.new))

pub with_place-requires : goal.with_place-requires
with_place-requires c =
    omega (arith, c.requires.place, place_within c.args.set.now.dates c.args.t, ap (λ (ts : List ℤ). length ts) (c.as_slice.ensures ∙ c.dates-2.ensures))
