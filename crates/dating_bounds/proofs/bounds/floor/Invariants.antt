use Rattle.std.proofs.Common.{◌≡◌, ℕ, ◌-◌, ◌<◌, ◌≤◌, length, true, false}
use Rattle.order_laws.specs.declared.Point.TheVariants.{Date}
use Rattle.order_laws.specs.Tables.{is_known}
use Rattle.order_closure.specs.Closures.{between}
use Rattle.dating_bounds.proofs.bounds.floor.Given as goal

abbrev pub invariant-loop-low : goal.invariant-loop-low
invariant-loop-low l = record {
  order : l.low ≤ l.high;
  top : l.high ≤ length l.set.dates;
  below : (k : ℕ) → k < l.low → is_known (between l.closure (Date k) l.p) ≡ true;
  above : (k : ℕ) → l.high ≤ k → k < length l.set.dates → is_known (between l.closure (Date k) l.p) ≡ false;
}

abbrev pub decreases-loop-low : goal.decreases-loop-low
decreases-loop-low l = l.high - l.low
