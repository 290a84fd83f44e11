-- The points that a search has reached.
use Rattle.std.specs.Prelude.{◌≡◌, ◌<◌, ◌≤◌, ◌+◌, ◌*◌, ℕ, Bool, true, false, cond, length, slice_index_or, sum_by}
use Rattle.order_core.specs.Sets.{Orders}
use Rattle.order_conflicts.specs.declared.leading.Found.{Found}
use Rattle.order_conflicts.specs.Paths.{IsKept, Leads, low_of, high_of}

abbrev pub is_seen : Found → ℕ → Bool
is_seen f p = slice_index_or f.seen.items p false

abbrev pub reached_at : Found → ℕ → ℕ
reached_at f i = slice_index_or f.reached.items i 0

-- exactly the points that are seen are listed, and each is led to from the first
pub record IsFound (set : Orders) (t points from : ℕ) (f : Found) : Type 0 where
  pub size : length f.seen.items ≡ points
  pub within : (i : ℕ) → i < length f.reached.items → reached_at f i < points
  pub led : (i : ℕ) → i < length f.reached.items → Leads set t from (reached_at f i)
  pub listed : (p : ℕ) → is_seen f p ≡ true → (i : ℕ) × ((i < length f.reached.items) × (reached_at f i ≡ p))

-- a search goes on
pub record Grows (old new : Found) : Type 0 where
  pub longer : length old.reached.items ≤ length new.reached.items
  pub front : (i : ℕ) → i < length old.reached.items → reached_at new i ≡ reached_at old i
  pub seen : (p : ℕ) → is_seen old p ≡ true → is_seen new p ≡ true

-- the orders before number `at` that begin at the point lead to points that are seen
abbrev pub AreTaken : Orders → ℕ → Found → ℕ → ℕ → Type 0
AreTaken set t f p at = (n : ℕ) → n < at → IsKept set t n → low_of set n ≡ p → is_seen f (high_of set n) ≡ true

-- twice the points that are not seen yet, and those that are listed
abbrev pub room : Found → ℕ
room f = 2 * sum_by (λ b. cond b 0 1) f.seen.items + length f.reached.items

-- the orders of point p before number `at` have been taken
pub record IsExpanding (set : Orders) (t points p : ℕ) (old new : Found) (at : ℕ) : Type 0 where
  pub within : at ≤ length set.list
  pub begins : at < length set.list → low_of set at ≡ p
  pub size : length new.seen.items ≡ points
  pub grows : Grows old new
  pub taken : AreTaken set t new p at
  pub smaller : room new ≤ room old
  pub found : (from : ℕ) → IsFound set t points from old → Leads set t from p → IsFound set t points from new

-- the points before place `at` of the list have been expanded
pub record IsSearching (set : Orders) (t points from : ℕ) (f : Found) (at : ℕ) : Type 0 where
  pub found : IsFound set t points from f
  pub start : is_seen f from ≡ true
  pub within : at ≤ length f.reached.items
  pub taken : (i : ℕ) → i < at → AreTaken set t f (reached_at f i) (length set.list)
