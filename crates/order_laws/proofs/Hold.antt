-- A walk holds in every satisfying placing.
use Rattle.std.proofs.Common.{◌≡◌, ℕ, ℤ, List, [], ◌∷◌, Bool, true, false, arith, inr, subst, ap}
use Rattle.std.specs.Prelude.{◌||◌}
use Rattle.std.proofs.lemmas.Int.{ints}
use Rattle.order_laws.specs.declared.Order.{Order}
use Rattle.order_laws.specs.declared.Point.{Point}
use Rattle.order_laws.specs.declared.Position.{Position}
use Rattle.order_laws.specs.Positions.{Stand}
use Rattle.order_laws.specs.Chains.{IsWalk, shows_strict, HasCycle, order_at}
use Rattle.order_laws.specs.Placings.{IsSatisfied, IsConsistent, position_at}

pub stand_twice : (a b : Bool) (p q r : Position) → Stand a p q → Stand b q r → Stand (a || b) p r
stand_twice true true p q r h k = grind (arith, ints)
stand_twice true false p q r h k = grind (arith, ints)
stand_twice false true p q r h k = grind (arith, ints)
stand_twice false false p q r h k = grind (arith, ints)

pub stand_same : (p q : Position) → p ≡ q → Stand false p q
stand_same p q e = inr (ap (λ (z : Position). z.instant) e, omega (arith, ap (λ (z : Position). z.rank) e))

pub never_before_self : (p : Position) → Stand true p p → ⊥
never_before_self p h = grind (arith, ints)

module _ (orders : List Order) (dates : List ℤ) (placing : List Position) (sat : IsSatisfied orders dates placing) where
  pub walk_stands : (x y : Point) (ns : List ℕ) → IsWalk orders x y ns →
      Stand (shows_strict orders ns) (position_at dates placing x) (position_at dates placing y)
  walk_stands x y [] w = stand_same _ _ (ap (position_at dates placing) w)
  walk_stands x y (n ∷ ns) w =
      let P : Point → Type 0 = λ z. Stand (shows_strict orders (n ∷ ns)) (position_at dates placing z) (position_at dates placing y) in
      subst P w.1
      (stand_twice (order_at orders n).strict (shows_strict orders ns)
      (position_at dates placing (order_at orders n).low) (position_at dates placing (order_at orders n).high) (position_at dates placing y)
      (sat n w.0) (walk_stands (order_at orders n).high y ns w.2))

pub cycle_refutes : (orders : List Order) (dates : List ℤ) (extents : ℕ) → HasCycle orders → IsConsistent orders dates extents → ⊥
cycle_refutes orders dates extents cycle consistent =
    let ns : List ℕ = cycle.1.0 in
    let placing : List Position = consistent.0 in
    let s : Stand (shows_strict orders ns) (position_at dates placing cycle.0) (position_at dates placing cycle.0) =
    walk_stands orders dates placing consistent.1.1 cycle.0 cycle.0 ns cycle.1.1.0.1 in
    let P : Bool → Type 0 = λ b. Stand b (position_at dates placing cycle.0) (position_at dates placing cycle.0) in
    never_before_self _ (subst P cycle.1.1.1 s)
