use Rattle.std.proofs.Common.{List, length, not, ap, ◌≡◌, false}
use Rattle.order_laws.specs.declared.Order.{Order}
use Rattle.order_laws.specs.Closure.{has_strict_loop}
use Rattle.order_laws.specs.Tables.{IsOrderSet}
use Rattle.order_laws.proofs.Hold.{cycle_refutes}
use Rattle.order_laws.proofs.Placed.{consistent}
use Rattle.order_core.specs.Sets.{completed}
use Rattle.order_conflicts.specs.Suspects.{without}
use Rattle.order_conflicts.proofs.Placed.{without_is_set, free_of_cycles, no_loop_without, is_not}
use Rattle.order_conflicts.proofs.laws.suspects_alone_can_be_wrong.Goals as goal

pub returns : goal.returns
returns c = λ extents dates statements t ascending range.
    let rest : List Order = without t (completed extents (length dates) statements) in
    let s : IsOrderSet rest extents dates = without_is_set t extents dates statements ascending range in (
      λ e. consistent rest extents dates s (free_of_cycles rest extents dates s (is_not (has_strict_loop rest extents (length dates)) e)),
      λ placed.
          (let none : has_strict_loop rest extents (length dates) ≡ false = no_loop_without rest extents dates s (λ cycle. cycle_refutes rest dates extents cycle placed) in
          ap not none),
    )
