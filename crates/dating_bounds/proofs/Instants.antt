-- What is said of a set with an instant among its dates is true of the set.
use Rattle.std.proofs.Common.{◌≡◌, ℕ, ℤ, pos, List, ◌*◌, ◌<◌, get_or, arith, subst, sym, ◌∙◌, ap}
use Rattle.order_laws.specs.declared.Position.{Position}
use Rattle.order_laws.specs.Chains.{HasCycle}
use Rattle.order_laws.specs.Tables.{IsOrderSet}
use Rattle.order_core.specs.Sets.{Orders}
use Rattle.dating_bounds.specs.declared.moments.During.{During}
use Rattle.dating_bounds.specs.declared.moments.During.TheVariants.{Surely, Never, Maybe}
use Rattle.dating_bounds.specs.Dated.{dated, place_of}
use Rattle.dating_bounds.specs.Moment.{IsUnderWay, IsPlacingOf, IsDuring, during_of}
use Rattle.dating_bounds.proofs.Dating.{dated_is_set, dated_extents, dated_satisfied, none_dated, dated_at}
use Rattle.dating_bounds.proofs.UnderWay.{during_is}

under_way_by : (dates news : List ℤ) (placing : List Position) (k : ℕ) (t : ℤ) → IsUnderWay dates placing k t → IsUnderWay news placing k t
under_way_by dates news placing k t w = record { started = w.started; unended = w.unended }

module _ (set : Orders) (keeps : IsOrderSet set.list set.extents set.dates) (t : ℤ) where
  to_dated : (placing : List Position) → IsPlacingOf set placing → IsPlacingOf (dated set t) placing
  to_dated placing of = record {
    size = of.size ∙ ap (λ n. 2 * n) (sym (dated_extents set keeps t));
    satisfies = (dated_satisfied set keeps t placing).1 of.satisfies;
  }

  of_dated : (placing : List Position) → IsPlacingOf (dated set t) placing → IsPlacingOf set placing
  of_dated placing of = record {
    size = of.size ∙ ap (λ n. 2 * n) (dated_extents set keeps t);
    satisfies = (dated_satisfied set keeps t placing).0 of.satisfies;
  }

  carried : (k : ℕ) (d : During) → IsDuring (dated set t) t k d → IsDuring set t k d
  carried k Surely h = λ placing of. under_way_by (dated set t).dates set.dates placing k t (h placing (to_dated placing of))
  carried k Never h = λ placing of way. h placing (to_dated placing of) (under_way_by set.dates (dated set t).dates placing k t way)
  carried k (Maybe inside outside) h = (
    (of_dated inside h.0.0, under_way_by (dated set t).dates set.dates inside k t h.0.1),
    (of_dated outside h.1.0, λ way. h.1.1 (under_way_by set.dates (dated set t).dates outside k t way)),
  )

  pub at_instant_is : (HasCycle set.list → ⊥) → (k : ℕ) → k < set.extents → IsDuring set t k (during_of (dated set t) (place_of set.dates t) k)
  at_instant_is no_cycle k h =
      let date = dated_at set keeps t in
      let e : (dated set t).extents ≡ set.extents = dated_extents set keeps t in
      let here : IsDuring (dated set t) (get_or (dated set t).dates (place_of set.dates t) (pos 0)) k (during_of (dated set t) (place_of set.dates t) k) =
      during_is (dated set t) (dated_is_set set keeps t) (none_dated set keeps t no_cycle) (place_of set.dates t) k date.0 (omega arith) in
      let P : ℤ → Type 0 = λ z. IsDuring (dated set t) z k (during_of (dated set t) (place_of set.dates t) k) in
      carried k (during_of (dated set t) (place_of set.dates t) k) (subst P date.1 here)
