use Rattle.std.proofs.Common.{arith, append_assoc, rules}
use Rattle.calendar_dates.proofs.Places.{places_more}
use Rattle.calendar_dates.proofs.texts.+append_places.Goals as goal

pub returns : goal.returns
returns t c =
    let more = c.append_places.ensures in
    let pushed = c.in_ok-push.ensures.items in
    rw (places_more c.args.count c.args.n (omega arith) (omega arith)) (search (rules, append_assoc))
