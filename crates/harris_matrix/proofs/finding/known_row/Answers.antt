use Rattle.std.proofs.Common.{◌≡◌, ◌+◌, ◌*◌, ℕ, length, subst}
use Rattle.order_closure.specs.Rows.{row_width}
use Rattle.harris_matrix.proofs.Striking.{same_if}
use Rattle.harris_matrix.proofs.finding.known_row.Goals as goal

pub returns : goal.returns
returns c =
    let P : ℕ → Type 0 = λ e. length c.le_row.result.now ≡ row_width (2 * e + c.args.closure.now.dates) in
    let Q : ℕ → Type 0 = λ d. length c.le_row.result.now ≡ row_width (2 * c.args.set.now.extents + d) in
    record {
      size = subst Q c.requires.closure.dates (subst P c.requires.closure.extents c.le_row.ensures.size);
      each = λ y in_y.
          (let told = c.le_row.ensures.follows c.args.set.now c.requires.closure y in_y in
          let known = c.closure_is_what_follows.ensures.known c.args.set.now.list c.args.x y in
          same_if _ _ (λ e. known.1 (told.0 e)) (λ e. told.1 (known.0 e)));
    }
