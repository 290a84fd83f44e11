-- What is before what, as rows of bits in machine words.
use Rattle.std.specs.Prelude.{◌≡◌, ◌≢◌, ◌<◌, ◌≤◌, ◌+◌, ◌*◌, ◌^◌, ◌||◌, ℕ, Bool, true, false, List, length, slice_index_or}
use Rattle.order_laws.specs.declared.Point.{Point}
use Rattle.order_laws.specs.declared.Point.TheVariants.{Start}
use Rattle.order_laws.specs.Closure.{reach_between}
use Rattle.order_laws.specs.Points.{number_of}
use Rattle.order_laws.specs.Tables.{IsPoint, is_known}
use Rattle.order_core.specs.Sets.{Orders}
use Rattle.order_closure.specs.Rows.{row_width, bit_of}

-- what the bit says of i and j, in rows of so many
abbrev pub mark_at : ℕ → List ℕ → ℕ → ℕ → Bool
mark_at count words i j = bit_of words (i * row_width count) j

-- so many rows of so many bits
pub record AreRows (count : ℕ) (words : List ℕ) : Type 0 where
  pub few : count ≤ 2 ^ 16
  pub size : length words ≡ count * row_width count

-- what is before what joins, and nothing is before itself
pub record IsStrictOrder (before : ℕ → ℕ → Bool) (count : ℕ) : Type 0 where
  pub joins : (i j k : ℕ) → i < count → j < count → k < count → before i j ≡ true → before j k ≡ true → before i k ≡ true
  pub never : (i : ℕ) → i < count → before i i ≡ false

-- the first rows say of each two of the extents what the test says, and the other rows say nothing
pub record IsMarked (test : ℕ → ℕ → Bool) (least : List ℕ) (rows : ℕ) (words : List ℕ) : Type 0 where
  pub size : length words ≡ length least * row_width (length least)
  pub each : (i j : ℕ) → i < rows → i < length least → j < length least →
      mark_at (length least) words i j ≡ test (slice_index_or least i 0) (slice_index_or least j 0)
  pub rest : (i j : ℕ) → rows ≤ i → i < length least → j < length least → mark_at (length least) words i j ≡ false

-- the test has been added to the first bits of row i, and to no other
pub record IsRowMarked (test : ℕ → Bool) (count i to : ℕ) (old new : List ℕ) : Type 0 where
  pub size : length new ≡ length old
  pub here : (j : ℕ) → j < to → j < count → mark_at count new i j ≡ (mark_at count old i j || test j)
  pub behind : (j : ℕ) → to ≤ j → j < count → mark_at count new i j ≡ mark_at count old i j
  pub others : (x j : ℕ) → x ≢ i → x < count → j < count → mark_at count new x j ≡ mark_at count old x j

-- the row says of each point whether x is known to be before or at it
pub record IsKnownFrom (set : Orders) (x : Point) (row : List ℕ) : Type 0 where
  pub size : length row ≡ row_width (2 * set.extents + length set.dates)
  pub each : (y : Point) → IsPoint set.extents (length set.dates) y →
      bit_of row 0 (number_of set.extents y) ≡ is_known (reach_between set.list x y)

-- where the row has the start of b, b is not known to start before or with a
pub record IsApartFrom (set : Orders) (a : ℕ) (row : List ℕ) : Type 0 where
  pub size : length row ≡ row_width (2 * set.extents + length set.dates)
  pub each : (b : ℕ) → b < set.extents → bit_of row 0 (2 * b) ≡ true → is_known (reach_between set.list (Start b) (Start a)) ≡ false
