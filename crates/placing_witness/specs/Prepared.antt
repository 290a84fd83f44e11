-- What the placings of one set share, and what a boundary delays.
use Rattle.std.specs.Prelude.{zero, suc, ℕ, ℤ, ◌≡◌, ◌≤◌, ◌<◌, ◌+◌, ◌*◌, ◌^◌, ◌&&◌, ◌==◌, true, cond, leb, map, take, flat_map, List, [], ◌∷◌, ◌++◌, length, slice_index_or}
use Rattle.order_laws.specs.declared.Point.{Point}
use Rattle.order_laws.specs.declared.Point.TheVariants.{Start}
use Rattle.order_laws.specs.declared.Position.{Position}
use Rattle.order_laws.specs.declared.Reach.{Reach}
use Rattle.order_laws.specs.Chains.{HasCycle}
use Rattle.order_laws.specs.Placings.{no_position}
use Rattle.order_laws.specs.Tables.{is_known, is_strict, all_points, floor_of, floor_instant, count_where, built_at}
use Rattle.order_core.specs.Sets.{Orders}
use Rattle.order_closure.specs.Closures.{Closed, IsClosureOf, between}
use Rattle.placing_witness.specs.declared.delays.Delay.{Delay}
use Rattle.placing_witness.specs.Bits.{entry_at, words_of, count_to}
use Rattle.placing_witness.specs.Delays.{delay_of, is_apart, is_level}

-- the points below p, as bits
abbrev pub lower_row : (Point → Point → Reach) → List Point → ℕ → Point → List ℕ
lower_row table points words p = words_of (map (λ q. table q p) points) words

-- the point of a number
abbrev pub point_of : List Point → ℕ → Point
point_of points n = slice_index_or points n (Start 0)

-- how many of the first `count` points are before point n and have its floor
abbrev pub below_to : (Point → Point → Reach) → List Point → List ℕ → ℕ → ℕ → ℕ
below_to table points floors n count =
    count_to (λ q. is_strict (table (point_of points q) (point_of points n)) && (slice_index_or floors q 0 == slice_index_or floors n 0)) count

-- how many of the first `count` points are strict in the row and before point n
abbrev pub between_to : (Point → Point → Reach) → List Point → List Reach → ℕ → ℕ → ℕ
between_to table points row n count = count_to (λ q. is_strict (entry_at row q) && is_strict (table (point_of points q) (point_of points n))) count

-- of each point behind that of the row the count of points between the two
abbrev pub IsBehind : (Point → Point → Reach) → List Point → List Reach → List ℕ → Type 0
IsBehind table points row counts = (n : ℕ) → n < length counts → is_strict (entry_at row n) ≡ true →
    slice_index_or counts n 0 ≡ between_to table points row n (length points)

-- the points, their floors, and the plain placing
pub record IsBaseOf (set : Orders) (closure : Closed) (points : List Point) (floors : List ℕ) (positions : List Position) : Type 0 where
  pub closed : IsClosureOf set closure
  pub consistent : ¬ HasCycle set.list
  pub listed : points ≡ all_points set.extents (length set.dates)
  pub floored : floors ≡ map (floor_of (between closure) (length set.dates)) points
  pub placed : positions ≡ map (built_at set.extents set.dates (between closure)) (take (2 * set.extents) points)

-- the same, and the points below each boundary
pub record IsPrepared (set : Orders) (closure : Closed) (points : List Point) (floors : List ℕ) (words : ℕ) (lower : List ℕ) (positions : List Position) : Type 0 where
  pub base : IsBaseOf set closure points floors positions
  pub few : words ≤ 2 ^ 20
  pub enough : length points ≤ 64 * words
  pub lowered : lower ≡ flat_map (lower_row (between closure) points words) (take (2 * set.extents) points)

-- the floor up to which x delays, the position of the points that are level with x, and the number of
-- these points
pub record IsDelay (dates : List ℤ) (table : Point → Point → Reach) (points : List Point) (x : Point) (delay : Delay) : Type 0 where
  pub floor : delay.floor ≡ delay_of table (length dates) x
  pub instant : delay.level.instant ≡ floor_instant dates (delay_of table (length dates) x)
  pub rank : delay.level.rank ≡ count_where (is_apart table (length dates) x (delay_of table (length dates) x)) points
  pub above : delay.above ≡ count_where (is_level table x) points

-- where a point stands, from what is known of x to it, its floor, the count of points between x and it and
-- its plain position
abbrev pub delayed_position : Delay → Reach → ℕ → ℕ → Position → Position
delayed_position delay reach floor count plain =
    cond (is_known reach && leb floor delay.floor)
    (record {
      instant = delay.level.instant;
      rank = delay.level.rank + cond (is_strict reach) (delay.above + count) 0;
    })
    plain

-- the same for the first `count` points
abbrev pub delayed_positions : Delay → List Reach → List ℕ → List ℕ → List Position → ℕ → List Position
delayed_positions delay row floors counts plain zero = []
delayed_positions delay row floors counts plain (suc n) =
    delayed_positions delay row floors counts plain n
    ++ delayed_position delay (entry_at row n) (slice_index_or floors n 0) (slice_index_or counts n 0) (slice_index_or plain n no_position) ∷ []
