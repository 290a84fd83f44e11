use Rattle.std.proofs.Common.{arith, List, length, ap, subst, sym}
use Rattle.harris_matrix.specs.declared.cells.CellPair.{CellPair}
use Rattle.harris_matrix.specs.Matrices.{Cells}
use Rattle.harris_matrix.specs.Walks.{IsWalk}
use Rattle.harris_matrix.proofs.Reading.{walk_in_range}
use Rattle.harris_matrix.proofs.matrix.Matrix.walks_to.Goals as goal

pub returns-then-j-count : goal.returns-then-j-count
returns-then-j-count c = (
  omega (arith, c.if-j-count.true, c.len-count.ensures, ap (λ (v : Cells). length v.cells) c.self.view_is),
  λ i ds some walk.
      (let P : List CellPair → Type 0 = λ ps. IsWalk ps i c.args.j ds in
      let own : IsWalk c.self.inside.covers i c.args.j ds = subst P (sym (ap (λ (v : Cells). v.covers) c.self.view_is)) walk in
      let range = walk_in_range (length c.self.inside.cells) c.self.inside.covers c.self.inside.starts.items c.self.invariant.are_starts i c.args.j ds some own in
      absurd (omega (arith, range.1, c.if-j-count.true, c.len-count.ensures))),
)
