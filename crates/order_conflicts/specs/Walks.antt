-- What a walk in depth keeps.
use Rattle.std.specs.Prelude.{◌≡◌, ◌<◌, ◌≤◌, ◌+◌, ◌*◌, ◌-◌, ℕ, length, sum_by}
use Rattle.std.specs.List.{All}
use Rattle.order_conflicts.specs.declared.walking.Walk.{Walk}

pub record IsWalk (points orders : ℕ) (w : Walk) : Type 0 where
  pub marks : length w.marks.items ≡ points
  pub left : length w.left.items ≡ points
  pub layers : length w.layers.items ≡ points
  pub within : All (λ at. at ≤ orders) w.left.items
  pub path : All (λ p. p < points) w.path.items
  pub trail : All (λ p. p < points) w.trail.items

-- the orders that are still to be taken, twice, and the points of the trail
abbrev pub work_left : ℕ → Walk → ℕ
work_left orders w = 2 * sum_by (λ at. orders - at) w.left.items + length w.trail.items
