-- A cycle on which a triple makes no order is one of the orders that the triple doesn't make.
use Rattle.std.proofs.Common.{◌≡◌, ℕ, List, [], ◌∷◌, Bool, true, false, not, ◌<◌, length, arith, inl, inr, refl, subst, ap, sym, ◌∙◌}
use Rattle.std.specs.Prelude.{◌||◌}
use Rattle.std.proofs.lemmas.Bool.{cases_Bool, true≢false}
use Rattle.order_laws.specs.declared.Order.{Order}
use Rattle.order_laws.specs.declared.Point.{Point}
use Rattle.order_laws.specs.Chains.{order_at, IsWalk, shows_strict, HasCycle}
use Rattle.order_laws.proofs.Loops.{cycle_decided}
use Rattle.order_laws.specs.Tables.{IsOrderSet}
use Rattle.order_core.specs.Sets.{Orders}
use Rattle.order_conflicts.specs.Rings.{IsCycle, is_on}
use Rattle.order_conflicts.specs.Suspects.{is_made_by, is_suspect, without}
use Rattle.order_conflicts.proofs.Kept.{Below, kept_to, lows_within}

or_false : (a b : Bool) → (a || b) ≡ false → (a ≡ false) × (b ≡ false)
or_false true b e = absurd (true≢false e)
or_false false b e = (refl, e)

-- a walk without the triple, with what it shows
record Avoids (t : ℕ) (orders : List Order) (x y : Point) (strict : Bool) : Type 0 where
  numbers : List ℕ
  walk : IsWalk (without t orders) x y numbers
  shows : shows_strict (without t orders) numbers ≡ strict

avoiding : (t : ℕ) (orders : List Order) (x y : Point) (ns : List ℕ) → IsWalk orders x y ns → is_on orders t ns ≡ false →
    Avoids t orders x y (shows_strict orders ns)
avoiding t orders x y [] w off = record { numbers = []; walk = w; shows = refl }
avoiding t orders x y (n ∷ ns) w off =
    let apart = or_false (is_made_by t (order_at orders n)) (is_on orders t ns) off in
    let b : Below t orders (order_at orders n) = kept_to t orders n w.0 apart.0 in
    let rest : Avoids t orders (order_at orders n).high y (shows_strict orders ns) = avoiding t orders (order_at orders n).high y ns w.2 apart.1 in
    let P : Point → Type 0 = λ q. IsWalk (without t orders) q y rest.numbers in
    let strict : (order_at (without t orders) b.number).strict ≡ (order_at orders n).strict = ap (λ (o : Order). o.strict) b.same in
    record {
      numbers = b.number ∷ rest.numbers;
      walk = (b.below, ap (λ (o : Order). o.low) b.same ∙ w.1, subst P (sym (ap (λ (o : Order). o.high) b.same)) rest.walk);
      shows = rw (strict, rest.shows) refl;
    }

pub long : (orders : List Order) (ns : List ℕ) → shows_strict orders ns ≡ true → 0 < length ns
long orders [] e = absurd (true≢false (sym e))
long orders (n ∷ ns) e = omega arith

pub cycle_avoids : (t : ℕ) (orders : List Order) (ns : List ℕ) → IsCycle orders ns → is_on orders t ns ≡ false → HasCycle (without t orders)
cycle_avoids t orders ns cycle off =
    let a : Avoids t orders cycle.0 cycle.0 (shows_strict orders ns) = avoiding t orders cycle.0 cycle.0 ns cycle.1.0.1 off in
    let shows : shows_strict (without t orders) a.numbers ≡ true = a.shows ∙ cycle.1.1 in
    (cycle.0, (a.numbers, ((long (without t orders) a.numbers shows, a.walk), shows)))

pub not_suspect : (set : Orders) (t : ℕ) (ns : List ℕ) → IsOrderSet set.list set.extents set.dates → IsCycle set.list ns → is_on set.list t ns ≡ false →
    is_suspect set t ≡ false
not_suspect set t ns s cycle off =
    ap not ((cycle_decided (without t set.list) set.extents (length set.dates) (lows_within set t s)).0 (cycle_avoids t set.list ns cycle off))

-- a suspect makes an order of every cycle
pub suspect_on : (set : Orders) (t : ℕ) (ns : List ℕ) → IsOrderSet set.list set.extents set.dates → is_suspect set t ≡ true → IsCycle set.list ns → is_on set.list t ns ≡ true
suspect_on set t ns s suspect cycle =
    elim (cases_Bool (is_on set.list t ns)) [
      | inl on ↦ on
      | inr off ↦ absurd (true≢false (sym suspect ∙ not_suspect set t ns s cycle off))
    ]
