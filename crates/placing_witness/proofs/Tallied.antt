-- Counts that are taken from one row after another.
use Rattle.std.proofs.Common.{◌≡◌, ℕ, List, true, cond, ◌+◌, ◌<◌, length, get_or, add-one, subst, ap, sym, ◌∙◌}
use Rattle.std.specs.Prelude.{◌&&◌, ◌==◌}
use Rattle.order_laws.specs.declared.Point.{Point}
use Rattle.order_laws.specs.declared.Point.TheVariants.{Start}
use Rattle.order_laws.specs.declared.Reach.{Reach}
use Rattle.order_laws.specs.Tables.{is_strict, all_points}
use Rattle.order_closure.specs.Closures.{Closed, IsRowOf, between}
use Rattle.order_closure.specs.Rows.{bit_of}
use Rattle.placing_witness.specs.Bits.{entry_at}
use Rattle.placing_witness.specs.Prepared.{below_to, between_to}
use Rattle.placing_witness.proofs.RowBits.{strict_tells, row_bit}

module _ (closure : Closed) (points : List Point) (listed : points ≡ all_points closure.extents closure.dates) (bits : List ℕ) (q : ℕ)
    (is_row : IsRowOf closure (get_or points q (Start 0)) true bits) (n old new : ℕ) (here : n < length points) where
  bit_is : bit_of bits 0 n ≡ is_strict (between closure (get_or points q (Start 0)) (get_or points n (Start 0)))
  bit_is = row_bit closure points listed (get_or points q (Start 0)) true bits n is_row here ∙ sym (strict_tells closure (get_or points q (Start 0)) (get_or points n (Start 0)))

  pub below_next : (floors : List ℕ) → old ≡ below_to (between closure) points floors n q →
      new ≡ old + cond (bit_of bits 0 n && (get_or floors q 0 == get_or floors n 0)) 1 0 → new ≡ below_to (between closure) points floors n (q + 1)
  below_next floors is_old is_new =
      let P : ℕ → Type 0 = λ m. new ≡ below_to (between closure) points floors n m in
      subst P (sym (add-one q))
      (is_new ∙ ap (λ k. k + cond (bit_of bits 0 n && (get_or floors q 0 == get_or floors n 0)) 1 0) is_old
      ∙ ap (λ b. below_to (between closure) points floors n q + cond (b && (get_or floors q 0 == get_or floors n 0)) 1 0) bit_is)

  pub between_next : (row : List Reach) → old ≡ between_to (between closure) points row n q →
      new ≡ old + cond (is_strict (entry_at row q) && bit_of bits 0 n) 1 0 → new ≡ between_to (between closure) points row n (q + 1)
  between_next row is_old is_new =
      let P : ℕ → Type 0 = λ m. new ≡ between_to (between closure) points row n m in
      subst P (sym (add-one q))
      (is_new ∙ ap (λ k. k + cond (is_strict (entry_at row q) && bit_of bits 0 n) 1 0) is_old
      ∙ ap (λ b. between_to (between closure) points row n q + cond (is_strict (entry_at row q) && b) 1 0) bit_is)
