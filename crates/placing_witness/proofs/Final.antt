-- The placings that the code builds are those of the set.
use Rattle.std.proofs.Common.{◌≡◌, ℕ, ℤ, List, ◌++◌, ◌*◌, ◌^◌, ◌≤◌, length, map, take, arith, subst, ap, sym, ◌∙◌}
use Rattle.std.specs.Prelude.{flat_map}
use Rattle.std.proofs.Math.Seq.{take-append_seam}
use Rattle.std.proofs.lemmas.List.{length-map, length-append, length-take-le}
use Rattle.order_laws.specs.declared.Point.{Point}
use Rattle.order_laws.specs.declared.Position.{Position}
use Rattle.order_laws.specs.declared.Reach.{Reach}
use Rattle.order_laws.specs.Chains.{HasCycle}
use Rattle.order_laws.specs.Closure.{reach_between}
use Rattle.order_laws.specs.Tables.{IsPoint, boundaries, date_points, all_points, built_at, floor_of, IsOrderly}
use Rattle.order_laws.specs.Wider.{widened, wider, plain_placing, delaying_placing}
use Rattle.order_laws.proofs.Base.{base_orderly}
use Rattle.order_laws.proofs.Closure.{one_base}
use Rattle.order_laws.proofs.Members.{in_range, among_left, length-boundaries}
use Rattle.order_laws.proofs.Placed.{built_same, map_same}
use Rattle.order_core.specs.Sets.{Orders}
use Rattle.order_closure.specs.Closures.{Closed, IsClosureOf, between}
use Rattle.placing_witness.specs.declared.delays.Delay.{Delay}
use Rattle.placing_witness.specs.Delays.{delayed_at}
use Rattle.placing_witness.specs.Prepared.{lower_row, IsBehind, IsBaseOf, IsPrepared, IsDelay, delayed_positions}
use Rattle.placing_witness.proofs.Delayed.{delayed_is}
use Rattle.placing_witness.proofs.InRange.{length_points}
use Rattle.placing_witness.proofs.Sharing.{list_is, length-rows, length-lower}

boundaries_first : (extents dates : ℕ) → take (2 * extents) (all_points extents dates) ≡ boundaries extents
boundaries_first extents dates =
    let P : ℕ → Type 0 = λ n. take n (boundaries extents ++ date_points dates) ≡ boundaries extents in
    subst P (length-boundaries extents) (take-append_seam (boundaries extents) (date_points dates))

module _ (set : Orders) (closure : Closed) (closed : IsClosureOf set closure) (consistent : HasCycle set.list → ⊥) where
  n : ℕ
  n = length set.dates

  orderly : IsOrderly set.list set.extents (length set.dates) (between closure)
  orderly = base_orderly set.list set.extents (length set.dates) (between closure) closed.of_set.orders.low_in_range closed.of_set.orders.high_in_range consistent closed.base

  same_entry : (x y : Point) → IsPoint set.extents (length set.dates) x → IsPoint set.extents (length set.dates) y → between closure x y ≡ reach_between set.list x y
  same_entry x y in_x in_y = one_base set.list set.extents (length set.dates) (between closure) closed.base x y in_x in_y

  pub plain_is : (points : List Point) (positions : List Position) → points ≡ all_points set.extents (length set.dates) →
      positions ≡ map (built_at set.extents set.dates (between closure)) (take (2 * set.extents) points) →
      positions ≡ plain_placing set.list set.extents set.dates
  plain_is points positions listed placed =
      placed ∙ ap (λ ps. map (built_at set.extents set.dates (between closure)) (take (2 * set.extents) ps)) listed
      ∙ ap (map (built_at set.extents set.dates (between closure))) (boundaries_first set.extents (length set.dates))
      ∙ built_same set.extents set.dates (between closure) (reach_between set.list) same_entry

  delayed_everywhere : (x : Point) → IsPoint set.extents (length set.dates) x →
      map (delayed_at set.extents set.dates (between closure) x) (boundaries set.extents) ≡ delaying_placing set.list set.extents set.dates x
  delayed_everywhere x in_x =
      map_same (delayed_at set.extents set.dates (between closure) x) (built_at set.extents set.dates (wider (between closure) x)) (boundaries set.extents)
      (λ p a. sym (delayed_is set.list set.extents set.dates (between closure) closed.of_set.orders orderly x in_x p
      (in_range set.extents (length set.dates) p (among_left p (boundaries set.extents) (date_points (length set.dates)) a))))
      ∙ built_same set.extents set.dates (wider (between closure) x) (wider (reach_between set.list) x)
      (λ y z in_y in_z.
      ap (λ r. widened r (between closure x z) (between closure y z)) (same_entry x y in_x in_y)
      ∙ ap (λ r. widened (reach_between set.list x y) r (between closure y z)) (same_entry x z in_x in_z)
      ∙ ap (λ r. widened (reach_between set.list x y) (reach_between set.list x z) r) (same_entry y z in_y in_z))

pub boundaries_in : (set : Orders) (points : List Point) → points ≡ all_points set.extents (length set.dates) → 2 * set.extents ≤ length points
boundaries_in set points listed = omega (arith, length_points points set.extents (length set.dates) listed)

pub delaying_is : (set : Orders) (closure : Closed) (points : List Point) (floors : List ℕ) (positions : List Position) (x : Point) (delay : Delay) (row : List Reach) (counts : List ℕ) →
    IsBaseOf set closure points floors positions → IsPoint set.extents (length set.dates) x → IsDelay set.dates (between closure) points x delay →
    row ≡ map (λ q. between closure x q) points → length counts ≡ length positions → IsBehind (between closure) points row counts →
    delayed_positions delay row floors counts positions (length positions) ≡ delaying_placing set.list set.extents set.dates x
delaying_is set closure points floors positions x delay row counts p in_x fits is_row enough behind =
    let count : ℕ = 2 * set.extents in
    let long : count ≤ length points = omega (arith, ap length p.listed, length-append (boundaries set.extents) (date_points (length set.dates)), length-boundaries set.extents) in
    let size : length positions ≡ count = ap length p.placed ∙ length-map (take count points) (built_at set.extents set.dates (between closure)) ∙ length-take-le count points long in
    let P : List Reach → Type 0 = λ r. IsBehind (between closure) points r counts in
    ap (delayed_positions delay row floors counts positions) size
    ∙ ap (λ r. delayed_positions delay r floors counts positions count) is_row
    ∙ ap (λ f. delayed_positions delay (map (λ q. between closure x q) points) f counts positions count) p.floored
    ∙ ap (λ q. delayed_positions delay (map (λ q. between closure x q) points) (map (floor_of (between closure) (length set.dates)) points) counts q count) p.placed
    ∙ list_is set.dates set.extents (between closure) points x delay fits p.listed counts count count (subst P is_row behind) long (omega (arith, enough, size)) (omega arith)
    ∙ ap (λ ps. map (delayed_at set.extents set.dates (between closure) x) (take count ps)) p.listed
    ∙ ap (map (delayed_at set.extents set.dates (between closure) x)) (boundaries_first set.extents (length set.dates))
    ∙ delayed_everywhere set closure p.closed p.consistent x in_x

pub positions_size : (set : Orders) (closure : Closed) (points : List Point) (floors : List ℕ) (positions : List Position) →
    IsBaseOf set closure points floors positions → length positions ≡ 2 * set.extents
positions_size set closure points floors positions p =
    ap length p.placed ∙ length-map (take (2 * set.extents) points) (built_at set.extents set.dates (between closure))
    ∙ length-take-le (2 * set.extents) points (boundaries_in set points p.listed)

pub lower_size : (set : Orders) (closure : Closed) (points : List Point) (floors : List ℕ) (words : ℕ) (lower : List ℕ) (positions : List Position) →
    IsPrepared set closure points floors words lower positions → length lower ≡ length positions * words
lower_size set closure points floors words lower positions p =
    let some : List Point = take (2 * set.extents) points in
    let count : length positions ≡ length some = ap length p.base.placed ∙ length-map some (built_at set.extents set.dates (between closure)) in
    ap length p.lowered ∙ length-rows (lower_row (between closure) points words) words (length-lower (between closure) points words) some ∙ ap (λ k. k * words) (sym count)

pub base_is : (set : Orders) (closure : Closed) (points : List Point) (floors : List ℕ) (positions : List Position) (dates : List ℤ) (a b : List Point) (boundaries : ℕ) →
    IsClosureOf set closure → (HasCycle set.list → ⊥) → dates ≡ set.dates → points ≡ all_points set.extents (length set.dates) → a ≡ points → b ≡ points →
    floors ≡ map (floor_of (between closure) (length set.dates)) a → boundaries ≡ 2 * set.extents →
    positions ≡ map (built_at closure.extents dates (between closure)) (take boundaries b) → IsBaseOf set closure points floors positions
base_is set closure points floors positions dates a b boundaries closed consistent same_dates listed is_a is_b floored count placed = record {
  closed = closed;
  consistent = consistent;
  listed = listed;
  floored = floored ∙ ap (map (floor_of (between closure) (length set.dates))) is_a;
  placed = placed ∙ ap (λ ps. map (built_at closure.extents dates (between closure)) (take boundaries ps)) is_b
      ∙ ap (λ k. map (built_at closure.extents dates (between closure)) (take k points)) count
      ∙ ap (λ d. map (built_at closure.extents d (between closure)) (take (2 * set.extents) points)) same_dates
      ∙ ap (λ e. map (built_at e set.dates (between closure)) (take (2 * set.extents) points)) closed.extents;
}

pub prepared_is : (set : Orders) (closure : Closed) (points : List Point) (floors : List ℕ) (words : ℕ) (lower : List ℕ) (positions : List Position) (a : List Point) (boundaries : ℕ) →
    IsBaseOf set closure points floors positions → words ≤ 2 ^ 20 → length points ≤ 64 * words → a ≡ points → boundaries ≡ 2 * set.extents →
    lower ≡ flat_map (lower_row (between closure) a words) (take boundaries a) → IsPrepared set closure points floors words lower positions
prepared_is set closure points floors words lower positions a boundaries base few enough is_a count lowered = record {
  base = base;
  few = few;
  enough = enough;
  lowered = lowered ∙ ap (λ ps. flat_map (lower_row (between closure) ps words) (take boundaries ps)) is_a
      ∙ ap (λ k. flat_map (lower_row (between closure) points words) (take k points)) count;
}

-- the same with what stands behind each reference
pub placed_is : (set : Orders) (closure : Closed) (points : List Point) (floors : List ℕ) (positions : List Position) (x : Point) (delay : Delay) (row : List Reach) (counts : List ℕ)
    (dates : List ℤ) (a : List Point) (floors_kept : List ℕ) (positions_kept : List Position) →
    IsBaseOf set closure points floors positions → IsPoint set.extents (length set.dates) x → dates ≡ set.dates → a ≡ points →
    IsDelay dates (between closure) a x delay → row ≡ map (λ q. between closure x q) points → length counts ≡ length positions →
    IsBehind (between closure) points row counts → floors_kept ≡ floors → positions_kept ≡ positions →
    delayed_positions delay row floors_kept counts positions_kept (length positions_kept) ≡ delaying_placing set.list set.extents set.dates x
placed_is set closure points floors positions x delay row counts dates a floors_kept positions_kept p in_x same_dates is_a fits is_row size behind same_floors same_positions =
    let P : List ℤ → Type 0 = λ d. IsDelay d (between closure) a x delay in
    let Q : List Point → Type 0 = λ ps. IsDelay set.dates (between closure) ps x delay in
    ap (λ f. delayed_positions delay row f counts positions_kept (length positions_kept)) same_floors
    ∙ ap (λ q. delayed_positions delay row floors counts q (length q)) same_positions
    ∙ delaying_is set closure points floors positions x delay row counts p in_x (subst Q is_a (subst P same_dates fits)) is_row size behind
