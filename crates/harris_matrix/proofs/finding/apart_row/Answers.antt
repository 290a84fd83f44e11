use Rattle.std.proofs.Common.{◌≡◌, ◌+◌, ◌*◌, ℕ, List, length, ap, subst}
use Rattle.order_laws.specs.declared.Order.{Order}
use Rattle.order_laws.specs.declared.Point.TheVariants.{Start}
use Rattle.order_laws.specs.Closure.{reach_between}
use Rattle.order_laws.specs.Tables.{is_strict, IsBase, IsOrderly}
use Rattle.order_closure.specs.Rows.{row_width}
use Rattle.harris_matrix.proofs.Standing.{starts_apart}
use Rattle.harris_matrix.proofs.finding.apart_row.Goals as goal

pub returns : goal.returns
returns c =
    let orders : List Order = c.args.set.now.list in
    let base : IsBase orders c.args.set.now.extents (length c.args.set.now.dates) (reach_between orders) = record {
      strictly = λ x y _ _. c.closure_is_what_follows.ensures.strictly orders x y;
      known = λ x y _ _. c.closure_is_what_follows.ensures.known orders x y;
    } in
    let orderly : IsOrderly orders c.args.set.now.extents (length c.args.set.now.dates) (reach_between orders) =
    c.base_is_orderly.ensures orders c.args.set.now.extents c.args.set.now.dates (reach_between orders) c.conditions.ensures.orders c.requires.consistent base in
    let P : ℕ → Type 0 = λ e. length c.lt_row.result.now ≡ row_width (2 * e + c.args.closure.now.dates) in
    let Q : ℕ → Type 0 = λ d. length c.lt_row.result.now ≡ row_width (2 * c.args.set.now.extents + d) in
    record {
      size = subst Q c.requires.closure.dates (subst P c.requires.closure.extents c.lt_row.ensures.size);
      each = λ b h e.
          (let follows = (c.lt_row.ensures.follows c.args.set.now c.requires.closure (Start b) h).0 e in
          let strict = (c.closure_is_what_follows.ensures.strictly orders (Start c.args.a) (Start b)).1 follows in
          starts_apart orders c.args.set.now.extents c.args.set.now.dates (reach_between orders) c.conditions.ensures.orders orderly
          c.args.a b c.requires.in_range h (ap is_strict strict));
    }
