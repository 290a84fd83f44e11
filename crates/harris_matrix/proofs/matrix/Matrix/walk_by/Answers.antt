use Rattle.std.proofs.Common.{arith, ℕ, List, length, ap, subst, sym}
use Rattle.harris_matrix.specs.declared.cells.CellPair.{CellPair}
use Rattle.harris_matrix.specs.Walks.{IsWalk}
use Rattle.harris_matrix.proofs.Reading.{walk_in_range, no_round}
use Rattle.harris_matrix.proofs.matrix.Matrix.walk_by.Goals as goal
use Rattle.harris_matrix.proofs.matrix.Matrix.walk_by.Goals.{then-i-count-via-then-i-count, then-i-count-via-else-i-count+then-i-j}

pub returns-then-i-count : goal.returns-then-i-count
returns-then-i-count c = λ ds some walk.
    (let P : List CellPair → Type 0 = λ ps. IsWalk ps c.args.i c.args.j ds in
    let own : IsWalk c.self.inside.covers c.args.i c.args.j ds = subst P (sym (ap (λ v. v.covers) c.self.view_is)) walk in
    let range = walk_in_range (length c.self.inside.cells) c.self.inside.covers c.self.inside.starts.items c.self.invariant.are_starts c.args.i c.args.j ds some own in
    elim c.then-i-count.branch [
      | then-i-count-via-then-i-count w ↦ absurd (omega (arith, range.0, w.if-i-count.true))
      | then-i-count-via-else-i-count+then-i-j w ↦ (let Q : ℕ → Type 0 = λ x. IsWalk c.self.inside.covers c.args.i x ds in
          no_round (length c.self.inside.cells) c.self.inside.covers c.self.inside.starts.items c.self.inside.order.items
          c.self.invariant.are_starts c.self.invariant.forward c.args.i range.0 ds some (subst Q (sym w.if-i-j.true) own))
    ])
