use Rattle.std.proofs.Common.{◌<◌, false, get_or, ℕ}
use Rattle.std.proofs.lemmas.List.Elements.{All-filter}
use Rattle.order_laws.specs.declared.Point.TheVariants.{Start, End}
use Rattle.order_laws.specs.Closure.{reach_between}
use Rattle.harris_matrix.specs.Cells.{is_least}
use Rattle.harris_matrix.specs.Matrices.{least_of}
use Rattle.harris_matrix.proofs.laws.before_is_what_always_holds.Goals as goal

pub returns : goal.returns
returns c = λ orders extents dates periods i j set cycle range h l.
    (let a : ℕ = get_or (least_of orders periods) i 0 in
    let b : ℕ = get_or (least_of orders periods) j 0 in
    let kept = All-filter (is_least (reach_between orders) periods) (λ k. k < extents) periods range in
    let known = c.closure_is_what_follows.ensures.known orders (End a) (Start b) in
    let always = c.always_is_follows.ensures orders extents dates (End a) (Start b) false set cycle (kept i 0 h) (kept j 0 l) in
    (λ e. always.1 (known.0 e), λ s. known.1 (always.0 s)))
