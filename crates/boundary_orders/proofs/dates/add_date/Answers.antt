use mir.Syntax.{w128}
use mir.Val.{SFits}
use Rattle.std.proofs.Common.{ℤ, Option, Some, List, IfSome, sym, ap, subst, ◌∙◌, rules}
use Rattle.std.proofs.lemmas.Int.{to_z-of_z}
use Rattle.std.specs.BTreeSet.{insert_key}
use Rattle.std.specs.List.{All}
use Rattle.std.specs.Ordering.{int_cmp}
use Rattle.std.proofs.lemmas.Map.Views.{All-insert_key}
use Rattle.boundary_orders.specs.Orders.{IsInstant}
use Rattle.boundary_orders.proofs.dates.add_date.Goals as goal

pub returns-in_ok-insert-clause-instants : goal.returns-in_ok-insert-clause-instants
returns-in_ok-insert-clause-instants c = λ all.
    let date : IfSome (Some c.in-Some.date) IsInstant = subst (λ (o : Option ℤ). IfSome o IsInstant) c.in-Some.is c.requires in
    let fit : SFits w128 c.in-Some.date = search rules in
    subst (λ (ks : List ℤ). All IsInstant ks)
    (sym (c.in_ok-insert.ensures.keys ∙ ap (insert_key int_cmp c.args.found.now.keys) (to_z-of_z w128 c.in-Some.date fit))) (All-insert_key int_cmp c.in-Some.date IsInstant c.args.found.now.keys all date)
