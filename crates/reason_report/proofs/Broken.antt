-- What follows between the points of primitives, and what their delaying placings break.
use Rattle.std.proofs.Common.{◌≡◌, ℕ, ℤ, List, Bool, true, false, length, arith, inl, inr, sym, ◌∙◌, subst}
use Rattle.std.proofs.lemmas.Bool.{cases_Bool, true≢false}
use Rattle.std.proofs.lemmas.Int.{ints}
use Rattle.order_laws.specs.declared.Order.{Order}
use Rattle.order_laws.specs.declared.Point.{Point}
use Rattle.order_laws.specs.declared.Position.{Position}
use Rattle.order_laws.specs.Positions.{Stand, IsBefore}
use Rattle.order_laws.specs.Chains.{Follows, HasCycle}
use Rattle.order_laws.specs.Closure.{reach_between}
use Rattle.order_laws.specs.Placings.{position_at}
use Rattle.order_laws.specs.Tables.{is_known, IsPoint, IsOrderSet}
use Rattle.order_laws.specs.Wider.{delaying_placing}
use Rattle.order_laws.proofs.Closure.{entry_follows, follows_entry}
use Rattle.order_laws.proofs.Hold.{never_before_self}
use Rattle.order_laws.proofs.Placed.{delayed_before, delayed_on}

-- one before another is not at or before it the other way round
pub not_both : (p q : Position) → IsBefore q p → Stand false p q → ⊥
not_both p q before stand = grind (arith, ints)

-- what does not follow from the left point is broken by its delaying placing
pub breaks : (orders : List Order) (extents : ℕ) (dates : List ℤ) → IsOrderSet orders extents dates → (HasCycle orders → ⊥)
    → (x y : Point) → IsPoint extents (length dates) x → IsPoint extents (length dates) y → (strict : Bool) → (Follows orders x y strict → ⊥)
    → Stand strict (position_at dates (delaying_placing orders extents dates x) x) (position_at dates (delaying_placing orders extents dates x) y) → ⊥
breaks orders extents dates set none x y in_x in_y false not stand =
    not_both _ _ (delayed_before orders extents dates set none x y in_x in_y not) stand
breaks orders extents dates set none x y in_x in_y true not stand =
    let here : Position = position_at dates (delaying_placing orders extents dates x) x in
    let there : Position = position_at dates (delaying_placing orders extents dates x) y in
    elim (cases_Bool (is_known (reach_between orders x y))) [
      | inl known ↦
          (let on : there ≡ here = delayed_on orders extents dates set none x y in_x in_y (entry_follows orders x y false known) not in
          never_before_self here (let P : Position → Type 0 = λ p. Stand true here p in subst P on stand))
      | inr unknown ↦
          (let before : IsBefore there here =
          delayed_before orders extents dates set none x y in_x in_y (λ f. true≢false (sym (follows_entry orders x y false f) ∙ unknown)) in
          not_both here there before (weaker here there stand))
    ]
  where
    weaker : (p q : Position) → Stand true p q → Stand false p q
    weaker p q h = grind (arith, ints)
