use Rattle.std.proofs.Common.{sym, ◌∙◌}
use Rattle.chain_certificate.specs.Routes.{points_of}
use Rattle.order_conflicts.proofs.Searching.{led_where_seen, seen_where_led}
use Rattle.order_conflicts.proofs.leading.leads_back.Goals as goal

pub returns : goal.returns
returns g c =
    let set = c.args.set.now in (
      λ e. led_where_seen set c.args.triple (points_of set) c.args.ends.high c.in_ok-found.found c.in_ok-found.ensures c.args.ends.low (sym c.has.ensures ∙ e),
      λ l. c.has.ensures ∙ seen_where_led set c.args.triple (points_of set) c.args.ends.high c.in_ok-found.found c.in_ok-found.ensures c.args.ends.low l,
    )
