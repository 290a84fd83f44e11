use Rattle.std.proofs.Common.{false, Bool}
use Rattle.std.specs.Prelude.{◌&&◌}
use Rattle.order_laws.specs.declared.Point.TheVariants.{Start, End}
use Rattle.order_laws.specs.Closure.{reach_between}
use Rattle.order_laws.specs.Tables.{is_known}
use Rattle.harris_matrix.proofs.Striking.{both, and_true}
use Rattle.harris_matrix.proofs.laws.cells_are_what_always_holds.Goals as goal

pub returns : goal.returns
returns c = λ orders extents dates a b set cycle h l.
    (let known = c.closure_is_what_follows.ensures.known orders in
    let ss = c.always_is_follows.ensures orders extents dates (Start a) (Start b) false set cycle h l in
    let tt' = c.always_is_follows.ensures orders extents dates (Start b) (Start a) false set cycle l h in
    let ee = c.always_is_follows.ensures orders extents dates (End a) (End b) false set cycle h l in
    let ff = c.always_is_follows.ensures orders extents dates (End b) (End a) false set cycle l h in
    let w : Bool = is_known (reach_between orders (Start a) (Start b)) in
    let x : Bool = is_known (reach_between orders (Start b) (Start a)) in
    let y : Bool = is_known (reach_between orders (End a) (End b)) in
    let z : Bool = is_known (reach_between orders (End b) (End a)) in (
      (λ e. (let p = both (w && x && y) z e in let q = both (w && x) y p.0 in let r = both w x q.0 in
          (ss.1 ((known (Start a) (Start b)).0 r.0), tt'.1 ((known (Start b) (Start a)).0 r.1), ee.1 ((known (End a) (End b)).0 q.1), ff.1 ((known (End b) (End a)).0 p.1)))),
      (λ s. and_true (w && x && y) z (and_true (w && x) y
          (and_true w x ((known (Start a) (Start b)).1 (ss.0 s.0)) ((known (Start b) (Start a)).1 (tt'.0 s.1)))
          ((known (End a) (End b)).1 (ee.0 s.2))) ((known (End b) (End a)).1 (ff.0 s.3))),
    ))
