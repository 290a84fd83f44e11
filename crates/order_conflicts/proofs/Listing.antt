-- The suspects that are listed.
use Rattle.std.proofs.Common.{◌≡◌, ℕ, List, [], ◌∷◌, true, ◌<◌, arith, inl, inr, subst, ap, sym}
use Rattle.std.specs.List.{Contains, filter, range_with_len}
use Rattle.std.proofs.lemmas.Bool.{cases_Bool, eqb-true, true≢false}
use Rattle.order_laws.specs.declared.By.{By}
use Rattle.order_laws.specs.declared.By.TheVariants.{Triple, Extent, Dates}
use Rattle.order_laws.specs.declared.Order.{Order}
use Rattle.order_laws.specs.declared.Point.{Point}
use Rattle.order_laws.specs.Chains.{order_at, IsWalk, HasCycle}
use Rattle.order_laws.specs.Tables.{IsOrderSet}
use Rattle.order_core.specs.Sets.{Orders}
use Rattle.order_conflicts.specs.declared.suspects.Suspect.{Suspect}
use Rattle.order_conflicts.specs.Rings.{is_on}
use Rattle.order_conflicts.specs.Suspects.{above, is_from, is_made_by, is_suspect, suspect_of, suspects_in, triple_bound}
use Rattle.order_conflicts.proofs.Avoiding.{suspect_on}
use Rattle.order_conflicts.proofs.Marking.{below_bound}
use Rattle.order_conflicts.proofs.Members.{contains_mapped, source, passes_among, among_passing, number_among}

from_above : (t : ℕ) (by : By) → is_from t by ≡ true → t < above by
from_above t (Triple k) e = omega (arith, eqb-true k t e)
from_above t (Extent k) e = absurd (true≢false (sym e))
from_above t Dates e = absurd (true≢false (sym e))

-- the triple of an order of a walk is below the bound
on_below : (orders : List Order) (t : ℕ) (x y : Point) (ns : List ℕ) → IsWalk orders x y ns → is_on orders t ns ≡ true → t < triple_bound orders
on_below orders t x y [] w on = absurd (true≢false (sym on))
on_below orders t x y (n ∷ ns) w on =
    elim (cases_Bool (is_made_by t (order_at orders n))) [
      | inl made ↦ omega (arith, below_bound orders n w.0, from_above t (order_at orders n).by made)
      | inr other ↦ on_below orders t (order_at orders n).high y ns w.2 (rw other at on)
    ]

module _ (set : Orders) (t : ℕ) (s : IsOrderSet set.list set.extents set.dates) (cycle : HasCycle set.list) where
  pub listed_suspect : Contains (suspects_in set) (suspect_of set.list t) → is_suspect set t ≡ true
  listed_suspect c =
      let from = source (suspect_of set.list) (filter (is_suspect set) (range_with_len 0 (triple_bound set.list))) (suspect_of set.list t) c in
      let same : from.item ≡ t = ap (λ (u : Suspect). u.triple) from.same in
      let P : ℕ → Type 0 = λ k. is_suspect set k ≡ true in
      subst P same (among_passing (is_suspect set) (range_with_len 0 (triple_bound set.list)) from.item from.among).passes

  pub suspect_listed : is_suspect set t ≡ true → Contains (suspects_in set) (suspect_of set.list t)
  suspect_listed e =
      let on : is_on set.list t cycle.1.0 ≡ true = suspect_on set t cycle.1.0 s e (cycle.0, cycle.1.1) in
      let below : t < triple_bound set.list = on_below set.list t cycle.0 cycle.0 cycle.1.0 cycle.1.1.0.1 on in
      contains_mapped (suspect_of set.list) (filter (is_suspect set) (range_with_len 0 (triple_bound set.list))) t
      (passes_among (is_suspect set) (range_with_len 0 (triple_bound set.list)) t (number_among (triple_bound set.list) t below) e)
