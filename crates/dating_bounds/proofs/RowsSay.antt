-- What the rows of a closure and of its columns say of the points by number.
use Rattle.std.proofs.Common.{suc, ◌≡◌, ℕ, List, Bool, true, false, not, leb, ◌+◌, ◌*◌, ◌<◌, ◌≤◌, length, get_or, arith, inl, inr, refl, subst, ap, sym, ◌∙◌}
use Rattle.std.specs.Prelude.{◌&&◌, ◌||◌}
use Rattle.std.proofs.lemmas.Bool.{cases_Bool, true≢false, leb-true, le-leb}
use Rattle.order_laws.specs.declared.Order.{Order}
use Rattle.order_laws.specs.declared.Point.{Point}
use Rattle.order_laws.specs.declared.Point.TheVariants.{Start, End, Date}
use Rattle.order_laws.specs.declared.Position.{Position}
use Rattle.order_laws.specs.declared.Reach.{Reach}
use Rattle.order_laws.specs.Closure.{reach_between}
use Rattle.order_laws.specs.Points.{number_of}
use Rattle.order_laws.specs.Placings.{position_at, no_position}
use Rattle.order_laws.specs.Tables.{is_known, is_strict, IsPoint, all_points, floor_of, built_at, count_where, IsOrderly}
use Rattle.order_laws.proofs.Built.{floor_below, floor_greatest}
use Rattle.order_laws.proofs.Closure.{has, entry_follows, follows_entry}
use Rattle.order_laws.proofs.LawD.{placed}
use Rattle.order_laws.proofs.Placed.{computed_orderly, built_length}
use Rattle.order_core.specs.Sets.{Orders}
use Rattle.order_closure.specs.Closures.{Closed, IsRowFrom, IsColumnTo}
use Rattle.order_closure.specs.Rows.{bit_of}
use Rattle.placing_witness.specs.Bits.{count_to}
use Rattle.placing_witness.proofs.InRange.{point_in_range, length_points}
use Rattle.placing_witness.proofs.Numbered.{number_at}
use Rattle.placing_witness.proofs.Words.{count_same_to, count_listed}
use Rattle.dating_bounds.specs.Pushed.{is_passed, passed_rank, is_set_passed, AreShares}
use Rattle.dating_bounds.proofs.Halves.{is_false}
use Rattle.dating_bounds.proofs.Standing.{floor_low}

same_flag : (a b : Bool) → (a ≡ true → b ≡ true) → (b ≡ true → a ≡ true) → a ≡ b
same_flag true true f g = refl
same_flag true false f g = absurd (true≢false (sym (f refl)))
same_flag false true f g = absurd (true≢false (sym (g refl)))
same_flag false false f g = refl

module _ (set : Orders) (points : List Point) (listed : points ≡ all_points set.extents (length set.dates)) where
  row_says : (x : Point) (strict : Bool) (row : List ℕ) (n : ℕ) → IsRowFrom set x strict row → n < length points →
      bit_of row 0 n ≡ has strict (reach_between set.list x (get_or points n (Start 0)))
  row_says x strict row n is_row h =
      let p : Point = get_or points n (Start 0) in
      let in_p : IsPoint set.extents (length set.dates) p = point_in_range points set.extents (length set.dates) n (Start 0) listed h in
      let P : ℕ → Type 0 = λ k. bit_of row 0 k ≡ has strict (reach_between set.list x p) in
      subst P (number_at set.extents (Start 0) points (length set.dates) n listed h)
      (same_flag (bit_of row 0 (number_of set.extents p)) (has strict (reach_between set.list x p))
      (λ e. follows_entry set.list x p strict ((is_row p in_p).0 e)) (λ e. (is_row p in_p).1 (entry_follows set.list x p strict e)))

  column_says : (y : Point) (strict : Bool) (column : List ℕ) (n : ℕ) → IsColumnTo set y strict column → n < length points →
      bit_of column 0 n ≡ has strict (reach_between set.list (get_or points n (Start 0)) y)
  column_says y strict column n is_column h =
      let p : Point = get_or points n (Start 0) in
      let in_p : IsPoint set.extents (length set.dates) p = point_in_range points set.extents (length set.dates) n (Start 0) listed h in
      let P : ℕ → Type 0 = λ k. bit_of column 0 k ≡ has strict (reach_between set.list p y) in
      subst P (number_at set.extents (Start 0) points (length set.dates) n listed h)
      (same_flag (bit_of column 0 (number_of set.extents p)) (has strict (reach_between set.list p y))
      (λ e. follows_entry set.list p y strict ((is_column p in_p).0 e)) (λ e. (is_column p in_p).1 (entry_follows set.list p y strict e)))

  module _ (date : ℕ) (o : Order) (p : Point) (level below ahead before : List ℕ)
      (is_level : IsRowFrom set (Date date) false level) (is_below : IsColumnTo set o.low false below)
      (is_ahead : IsRowFrom set o.high false ahead) (is_before : IsColumnTo set p true before) where
    abbrev Table : Point → Point → Reach
    Table = reach_between set.list

    says : (n : ℕ) → n < length points → is_set_passed level below ahead before n ≡ is_passed Table date o p (get_or points n (Start 0))
    says n h =
        let q : Point = get_or points n (Start 0) in
        ap (λ b. (b && bit_of below 0 n) || (bit_of before 0 n && (b || bit_of ahead 0 n))) (row_says (Date date) false level n is_level h)
        ∙ ap (λ b. (is_known (Table (Date date) q) && b) || (bit_of before 0 n && (is_known (Table (Date date) q) || bit_of ahead 0 n))) (column_says o.low false below n is_below h)
        ∙ ap (λ b. (is_known (Table (Date date) q) && is_known (Table q o.low)) || (b && (is_known (Table (Date date) q) || bit_of ahead 0 n))) (column_says p true before n is_before h)
        ∙ ap (λ b. (is_known (Table (Date date) q) && is_known (Table q o.low)) || (is_strict (Table q p) && (is_known (Table (Date date) q) || b))) (row_says o.high false ahead n is_ahead h)

    pub rank_is : (count : ℕ) → count ≡ 2 * set.extents + length set.dates →
        count_to (is_set_passed level below ahead before) count ≡ passed_rank set.extents (length set.dates) Table date o p
    rank_is count is =
        let size : count ≡ length points = omega (arith, is, length_points points set.extents (length set.dates) listed) in
        ap (count_to (is_set_passed level below ahead before)) size
        ∙ count_same_to (is_set_passed level below ahead before) (λ k. is_passed Table date o p (get_or points k (Start 0))) (length points) says
        ∙ count_listed (is_passed Table date o p) points (Start 0)
        ∙ ap (count_where (is_passed Table date o p)) listed

module _ (set : Orders) (closure columns : Closed) (plain : List Position) (shares : AreShares set closure columns plain) where
  orderly : IsOrderly set.list set.extents (length set.dates) (reach_between set.list)
  orderly = computed_orderly set.list set.extents set.dates shares.closed.of_set.orders shares.consistent

  pub plain_size : length plain ≡ 2 * set.extents
  plain_size = ap length shares.placed ∙ built_length set.list set.extents set.dates (reach_between set.list) shares.closed.of_set.orders orderly

  pub plain_start : (k : ℕ) → k < set.extents → get_or plain (2 * k) no_position ≡ built_at set.extents set.dates (reach_between set.list) (Start k)
  plain_start k h =
      ap (λ (ps : List Position). position_at set.dates ps (Start k)) shares.placed
      ∙ sym (placed set.list set.extents set.dates (reach_between set.list) shares.closed.of_set.orders orderly (Start k) h)

  pub plain_end : (k : ℕ) → k < set.extents → get_or plain (2 * k + 1) no_position ≡ built_at set.extents set.dates (reach_between set.list) (End k)
  plain_end k h =
      ap (λ (ps : List Position). position_at set.dates ps (End k)) shares.placed
      ∙ sym (placed set.list set.extents set.dates (reach_between set.list) shares.closed.of_set.orders orderly (End k) h)

  pub later_is : (p : Point) → IsPoint set.extents (length set.dates) p → (date : ℕ) → date + 1 < length set.dates →
      is_known (reach_between set.list (Date (date + 1)) p) ≡ not (leb (floor_of (reach_between set.list) (length set.dates) p) (suc date))
  later_is p in_p date h =
      elim (cases_Bool (is_known (reach_between set.list (Date (date + 1)) p))) [
        | inl known ↦
            (let high : date + 1 < floor_of (reach_between set.list) (length set.dates) p = floor_greatest (reach_between set.list) (length set.dates) p (date + 1) h known in
            let above : leb (floor_of (reach_between set.list) (length set.dates) p) (suc date) ≡ false = is_false _ (λ e. (let low = leb-true _ _ e in absurd (omega arith))) in
            known ∙ sym (ap not above))
        | inr unknown ↦
            (let low : floor_of (reach_between set.list) (length set.dates) p ≤ date + 1 =
            floor_low set.list set.extents set.dates (reach_between set.list) shares.closed.of_set.orders orderly p in_p (date + 1) h unknown in
            unknown ∙ sym (ap not (le-leb (floor_of (reach_between set.list) (length set.dates) p) (suc date) (omega arith))))
      ]

  pub latest_is : (p : Point) (date : ℕ) → length set.dates ≤ date + 1 → false ≡ not (leb (floor_of (reach_between set.list) (length set.dates) p) (suc date))
  latest_is p date h =
      sym (ap not (le-leb (floor_of (reach_between set.list) (length set.dates) p) (suc date) (omega (arith, floor_below (reach_between set.list) (length set.dates) p))))
