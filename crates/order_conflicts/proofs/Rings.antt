-- The cycle of a tangle is the first of all from its points.
use Rattle.std.proofs.Common.{◌≡◌, ℕ, List, [], ◌<◌, length, true, refl, subst, All, Some, slice_get}
use Rattle.std.specs.Prelude.{None}
use Rattle.std.proofs.lemmas.Option.{slice_get_within, get_or_from_slice_get}
use Rattle.std.specs.List.{Contains}
use Rattle.order_laws.specs.declared.Point.{Point}
use Rattle.order_laws.specs.Chains.{IsChain, shows_strict, Follows}
use Rattle.order_laws.specs.Lists.{IsAtMost}
use Rattle.order_laws.specs.Tables.{IsPoint, IsOrderSet, all_points}
use Rattle.order_laws.proofs.Base.{follows}
use Rattle.order_core.specs.Sets.{Orders}
use Rattle.order_conflicts.specs.declared.tangles.Tangle.{Tangle}
use Rattle.order_conflicts.specs.Cycles.{earliest}
use Rattle.order_conflicts.specs.Rings.{IsCycle, point_along}
use Rattle.order_conflicts.specs.Tangles.{are_tied, least_points, tangle_at, tangles_in, tied_points}
use Rattle.order_conflicts.proofs.First.{FirstAmong, cycle_first}
use Rattle.order_conflicts.proofs.Members.{source, passes_among, among_passing, point_among}
use Rattle.order_conflicts.proofs.Once.{passes_once}
use Rattle.order_conflicts.proofs.Tied.{Least, Tied, least_is, point_of_walk, of_tied, tied_of, tied_on, along_tangle, weak}

module _ (set : Orders) (s : IsOrderSet set.list set.extents set.dates) (x : Point) (c : Contains (least_points set) x) where
  l : Least set s x
  l = least_is set s x c

  loop : Follows set.list x x true
  loop = follows set.list x x true l.loops

  tied : (y : Point) → IsPoint set.extents (length set.dates) y → are_tied set.list x y ≡ true → Contains (tied_points set x) y
  tied y in_y e = passes_among (are_tied set.list x) (all_points set.extents (length set.dates)) y (point_among set.extents (length set.dates) y in_y) e

  itself : are_tied set.list x x ≡ true
  itself = of_tied set.list x x (record { there = weak set.list x x [] refl; back = weak set.list x x [] refl })

  first : FirstAmong set.list (tied_points set x) (tangle_at set x).cycle
  first = cycle_first set.list (tied_points set x) (earliest set.list None (tied_points set x)) refl x (tied x l.in_range itself) loop.0 loop.1.0 loop.1.1

  home : Tied set.list x first.point
  home = tied_of set.list x first.point (among_passing (are_tied set.list x) (all_points set.extents (length set.dates)) first.point first.among).passes

  pub is_cycle : IsCycle set.list (tangle_at set x).cycle
  is_cycle = (first.point, (first.chain.chain, first.chain.shows refl))

  pub cycle_listed : All (λ n. Contains (tangle_at set x).orders n) (tangle_at set x).cycle
  cycle_listed = along_tangle set s x first.point (tangle_at set x).cycle home first.chain.chain.1

  pub is_first : (y : Point) (ns : List ℕ) → are_tied set.list x y ≡ true → IsChain set.list y y ns → shows_strict set.list ns ≡ true →
      IsAtMost (tangle_at set x).cycle ns
  is_first y ns e chain shows = first.first y (tied y (point_of_walk set s y y ns chain.0 chain.1) e) ns chain shows

  pub is_once : (i j : ℕ) → i < j → j < length (tangle_at set x).cycle →
      point_along set.list (tangle_at set x).cycle i ≡ point_along set.list (tangle_at set x).cycle j → ⊥
  is_once i j less below e =
      passes_once set.list first.point (tangle_at set x).cycle first.chain
      (λ y there back ms chain shows.
      is_first y ms (of_tied set.list x y (tied_on set.list x first.point y home (record { there = there; back = back }))) chain shows)
      i j less below e

-- each tangle that is found has a cycle
pub found_cycle : (set : Orders) → IsOrderSet set.list set.extents set.dates → (t : Tangle) (k : ℕ) → slice_get (tangles_in set) k ≡ Some t →
    IsCycle set.list t.cycle
found_cycle set s t k e =
    let from = source (tangle_at set) (least_points set) t (k, slice_get_within (tangles_in set) k t e, get_or_from_slice_get (tangles_in set) k t t e) in
    let P : Tangle → Type 0 = λ u. IsCycle set.list u.cycle in
    subst P from.same (is_cycle set s from.item from.among)
