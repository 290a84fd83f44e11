use mir.Syntax.{w128}
use mir.Val.{SFits}
use Rattle.std.proofs.Common.{ℕ, ℤ, Bool, Some, cond, sym, ap, ◌∙◌, rules}
use Rattle.std.proofs.lemmas.Int.{to_z-of_z}
use Rattle.std.specs.Option.{option_map}
use Rattle.boundary_orders.specs.Orders as spec
use Rattle.boundary_orders.specs.Orders.{date_number, extent_number}
use Rattle.boundary_orders.proofs.listing.range_number.Goals as goal

pub returns-in-Some : goal.returns-in-Some
returns-in-Some c =
    let fit : SFits w128 c.in-Some.date = search rules in
    ap (λ (k : ℕ). Some k) c.date_number.ensures
    ∙ ap (λ (t : ℤ). Some (date_number c.args.dates.now t)) (to_z-of_z w128 c.in-Some.date fit)
    ∙ ap (option_map (date_number c.args.dates.now)) c.in-Some.ensures.value
    ∙ sym (ap (λ (b : Bool). cond b (option_map (date_number c.args.dates.now) (spec.instant_of c.args.names.now c.args.statement.now))
    (Some (extent_number c.args.extents.now.entries c.args.statement.now.range))) (sym c.if-not-is_date.ensures))
