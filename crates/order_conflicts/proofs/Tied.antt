-- Tangles list exactly the orders of cycles.
use Rattle.std.proofs.Common.{zero, suc, ◌≡◌, ℕ, List, [], ◌∷◌, Bool, true, false, not, ◌<◌, length, get_or, take, All, arith, inl, inr, refl, subst, sym, ◌∙◌}
use Rattle.std.specs.Prelude.{◌&&◌}
use Rattle.std.specs.List.{Contains, list_any}
use Rattle.std.proofs.lemmas.Bool.{cases_Bool, cases_lt, true≢false}
use Rattle.std.proofs.lemmas.List.Folds.{list_any_at}
use Rattle.std.proofs.lemmas.List.{length-take, get_or-take}
use Rattle.order_laws.specs.declared.Order.{Order}
use Rattle.order_laws.specs.declared.Point.{Point}
use Rattle.order_laws.specs.Chains.{order_at, IsWalk, shows_strict}
use Rattle.order_laws.specs.Closure.{reach_between}
use Rattle.order_laws.specs.Points.{number_of}
use Rattle.order_laws.specs.Tables.{IsPoint, IsOrderSet, is_known, is_strict, all_points}
use Rattle.order_laws.proofs.Base.{Reaches, reaches, follows, reaches_join}
use Rattle.order_laws.proofs.Closure.{entry_follows, follows_entry}
use Rattle.order_core.specs.Sets.{Orders}
use Rattle.order_closure.proofs.Linking.{number_within}
use Rattle.order_closure.proofs.Tabling.{number_injective}
use Rattle.placing_witness.proofs.Numbered.{number_at}
use Rattle.placing_witness.proofs.InRange.{length_points, point_in_range}
use Rattle.order_conflicts.specs.Rings.{IsCycle}
use Rattle.order_conflicts.specs.Tangles.{are_tied, is_tied_in, is_least, least_points, tangle_at}
use Rattle.order_conflicts.proofs.Members.{Passes, passes_among, among_passing, point_among, among_points, number_among, among_numbers}

and_true : (a b : Bool) → (a && b) ≡ true → (a ≡ true) × (b ≡ true)
and_true true b e = (refl, e)
and_true false b e = absurd (true≢false (sym e))

is_not : (b : Bool) → not b ≡ true → b ≡ false
is_not true e = absurd (true≢false (sym e))
is_not false e = refl

any_less : (p q : Point → Bool) (xs : List Point) → ((z : Point) → p z ≡ true → q z ≡ true) → list_any q xs ≡ false → list_any p xs ≡ false
any_less p q [] more none = refl
any_less p q (x ∷ xs) more none =
    elim (cases_Bool (q x)) [
      | inl holds ↦ absurd (true≢false (rw holds at none))
      | inr other ↦ elim (cases_Bool (p x)) [
        | inl passes ↦ absurd (true≢false (sym (more x passes) ∙ other))
        | inr fails ↦ rw fails (any_less p q xs more (rw other at none))
      ]
    ]

-- the first item that passes
record First (p : Point → Bool) (xs : List Point) (d : Point) : Type 0 where
  place : ℕ
  below : place < length xs
  passes : p (get_or xs place d) ≡ true
  first : list_any p (take place xs) ≡ false

first_later : (p : Point → Bool) (x : Point) (xs : List Point) (d y : Point) → p x ≡ false → Contains (x ∷ xs) y → p y ≡ true →
    (Contains xs y → First p xs d) → First p (x ∷ xs) d
first_later p x xs d y other (zero, h, c) e rest =
    let P : Point → Type 0 = λ z. p z ≡ true in absurd (true≢false (sym (subst P (sym c) e) ∙ other))
first_later p x xs d y other (suc k, h, c) e rest =
    let old : First p xs d = rest (k, omega (arith, h), c) in
    record { place = suc old.place; below = omega (arith, old.below); passes = old.passes; first = rw other old.first }

first_of : (p : Point → Bool) (xs : List Point) (d y : Point) → Contains xs y → p y ≡ true → First p xs d
first_of p [] d y c e = absurd (omega (arith, c.1))
first_of p (x ∷ xs) d y c e =
    elim (cases_Bool (p x)) [
      | inl holds ↦ record { place = 0; below = omega arith; passes = holds; first = refl }
      | inr other ↦ first_later p x xs d y other c e (λ h. first_of p xs d y h e)
    ]

same_at : (xs : List Point) (k : ℕ) (d e : Point) → k < length xs → get_or xs k d ≡ get_or xs k e
same_at [] k d e h = absurd (omega arith)
same_at (x ∷ xs) zero d e h = refl
same_at (x ∷ xs) (suc k) d e h = same_at xs k d e (omega arith)

here : (ns : List ℕ) (k d n : ℕ) → k < length ns → n ≡ get_or ns k d → get_or ns k n ≡ n
here [] k d n h e = absurd (omega arith)
here (m ∷ ms) zero d n h e = sym e
here (m ∷ ms) (suc k) d n h e = here ms k d n (omega arith) e

module _ (orders : List Order) where
  -- each is before or at the other
  pub record Tied (x y : Point) : Type 0 where
    pub there : Reaches orders x y false
    pub back : Reaches orders y x false

  pub tied_of : (x y : Point) → are_tied orders x y ≡ true → Tied x y
  tied_of x y e =
      let each = and_true (is_known (reach_between orders x y)) (is_known (reach_between orders y x)) e in
      record { there = reaches orders x y false (entry_follows orders x y false each.0); back = reaches orders y x false (entry_follows orders y x false each.1) }

  pub of_tied : (x y : Point) → Tied x y → are_tied orders x y ≡ true
  of_tied x y t =
      rw (follows_entry orders x y false (follows orders x y false t.there), follows_entry orders y x false (follows orders y x false t.back)) refl

  pub tied_back : (x y : Point) → Tied x y → Tied y x
  tied_back x y t = record { there = t.back; back = t.there }

  pub tied_on : (x y z : Point) → Tied x y → Tied y z → Tied x z
  tied_on x y z s t = record { there = reaches_join orders x y z false false s.there t.there; back = reaches_join orders z y x false false t.back s.back }

  -- where two points are tied, one is before itself where the other is
  strict_there : (x y : Point) → Tied x y → Reaches orders y y true → Reaches orders x x true
  strict_there x y t r = reaches_join orders x y x true false (reaches_join orders x y y false true t.there r) t.back

  -- an order of a walk, with the walks to it and from it
  record On (x y : Point) (n : ℕ) : Type 0 where
    below : n < length orders
    before : Reaches orders x (order_at orders n).low false
    behind : Reaches orders (order_at orders n).high y false

  pub weak : (x y : Point) (ns : List ℕ) → IsWalk orders x y ns → Reaches orders x y false
  weak x y ns w = record { path = ns; walk = w; shows = λ e. absurd (true≢false (sym e)) }

  on_walk : (x y : Point) (ns : List ℕ) (n : ℕ) → IsWalk orders x y ns → Contains ns n → On x y n
  on_walk x y [] n w c = absurd (omega (arith, c.1))
  on_walk x y (m ∷ ms) n w (zero, h, c) =
      let P : ℕ → Type 0 = λ z. On x y z in
      subst P c (record { below = w.0; before = weak x (order_at orders m).low [] (sym w.1); behind = weak (order_at orders m).high y ms w.2 })
  on_walk x y (m ∷ ms) n w (suc k, h, c) =
      let rest : On (order_at orders m).high y n = on_walk (order_at orders m).high y ms n w.2 (k, omega (arith, h), c) in
      let step : Reaches orders x (order_at orders m).high false = weak x (order_at orders m).high (m ∷ []) (w.0, w.1, refl) in
      record { below = rest.below; before = reaches_join orders x (order_at orders m).high (order_at orders n).low false false step rest.before; behind = rest.behind }

  -- both ends of an order of a cycle are tied to its point
  ends_tied : (y : Point) (n : ℕ) → On y y n → Tied y (order_at orders n).low × Tied y (order_at orders n).high
  ends_tied y n on =
      let low : Point = (order_at orders n).low in
      let high : Point = (order_at orders n).high in
      let step : Reaches orders low high false = weak low high (n ∷ []) (on.below, refl, refl) in (
        record { there = on.before; back = reaches_join orders low high y false false step on.behind },
        record { there = reaches_join orders y low high false false on.before step; back = on.behind },
      )

  -- an order between points of a tangle is one of a cycle
  pub cycle_along : (x : Point) (n : ℕ) → n < length orders → Reaches orders x x true → Tied x (order_at orders n).low → Tied x (order_at orders n).high →
      (ns : List ℕ) × (IsCycle orders ns × Contains ns n)
  cycle_along x n h loop low high =
      let there : Reaches orders (order_at orders n).high x true = reaches_join orders (order_at orders n).high x x false true high.back loop in
      let back : Reaches orders (order_at orders n).high (order_at orders n).low true =
      reaches_join orders (order_at orders n).high x (order_at orders n).low true false there low.there in
      let shows : shows_strict orders (n ∷ back.path) ≡ true =
      elim (cases_Bool (order_at orders n).strict) [ inl e ↦ rw e refl | inr e ↦ rw e (back.shows refl) ] in (
        n ∷ back.path,
        (((order_at orders n).low, ((omega arith, (h, refl, back.walk)), shows)), (0, omega arith, refl)),
      )

module _ (set : Orders) (s : IsOrderSet set.list set.extents set.dates) where
  abbrev pub all : List Point
  all = all_points set.extents (length set.dates)

  -- what makes a point the least of a tangle
  pub record Least (x : Point) : Type 0 where
    pub in_range : IsPoint set.extents (length set.dates) x
    pub loops : Reaches set.list x x true
    pub alone : list_any (are_tied set.list x) (take (number_of set.extents x) all) ≡ false

  pub least_is : (x : Point) → Contains (least_points set) x → Least x
  least_is x c =
      let p : Passes (is_least set) all x = among_passing (is_least set) all x c in
      let each = and_true (is_strict (reach_between set.list x x)) (not (list_any (are_tied set.list x) (take (number_of set.extents x) all))) p.passes in
      record {
        in_range = among_points set.extents (length set.dates) x p.among;
        loops = reaches set.list x x true (entry_follows set.list x x true each.0);
        alone = is_not (list_any (are_tied set.list x) (take (number_of set.extents x) all)) each.1;
      }

  is_least_of : (x : Point) → Least x → Contains (least_points set) x
  is_least_of x l =
      passes_among (is_least set) all x (point_among set.extents (length set.dates) x l.in_range)
      (rw (follows_entry set.list x x true (follows set.list x x true l.loops), l.alone) refl)

  -- the order is listed in the tangle of the point
  listed : (x : Point) (n : ℕ) → n < length set.list → Tied set.list x (order_at set.list n).low → Tied set.list x (order_at set.list n).high →
      Contains (tangle_at set x).orders n
  listed x n h low high =
      passes_among (λ m. is_tied_in set.list x (order_at set.list m)) _ n (number_among (length set.list) n h)
      (rw (of_tied set.list x (order_at set.list n).low low, of_tied set.list x (order_at set.list n).high high) refl)

  pub record Listed (x : Point) (n : ℕ) : Type 0 where
    pub below : n < length set.list
    pub low : Tied set.list x (order_at set.list n).low
    pub high : Tied set.list x (order_at set.list n).high

  pub is_listed : (x : Point) (n : ℕ) → Contains (tangle_at set x).orders n → Listed x n
  is_listed x n c =
      let p = among_passing (λ m. is_tied_in set.list x (order_at set.list m)) _ n c in
      let each = and_true (are_tied set.list x (order_at set.list n).low) (are_tied set.list x (order_at set.list n).high) p.passes in
      record {
        below = among_numbers (length set.list) n p.among;
        low = tied_of set.list x (order_at set.list n).low each.0;
        high = tied_of set.list x (order_at set.list n).high each.1;
      }

  pub order_on_cycle : (x : Point) (n : ℕ) → Contains (least_points set) x → Contains (tangle_at set x).orders n →
      (ns : List ℕ) × (IsCycle set.list ns × Contains ns n)
  order_on_cycle x n c d =
      let l : Listed x n = is_listed x n d in cycle_along set.list x n l.below (least_is x c).loops l.low l.high

  -- some tangle lists the order
  abbrev pub IsListed : ℕ → Type 0
  IsListed n = (x : Point) × (Contains (least_points set) x × Contains (tangle_at set x).orders n)

  pub point_of_walk : (x y : Point) (ns : List ℕ) → 0 < length ns → IsWalk set.list x y ns → IsPoint set.extents (length set.dates) x
  point_of_walk x y [] h w = absurd (omega arith)
  point_of_walk x y (n ∷ ns) h w = let P : Point → Type 0 = IsPoint set.extents (length set.dates) in subst P w.1 (s.low_in_range n w.0)

  -- the least point of those that are tied to the point of a cycle
  module _ (y : Point) (in_y : IsPoint set.extents (length set.dates) y) (loop : Reaches set.list y y true) where
    itself : Tied set.list y y
    itself = record { there = weak set.list y y [] refl; back = weak set.list y y [] refl }

    found : First (are_tied set.list y) all y
    found = first_of (are_tied set.list y) all y y (point_among set.extents (length set.dates) y in_y) (of_tied set.list y y itself)

    abbrev least : Point
    least = get_or all found.place y

    least_tied : Tied set.list y least
    least_tied = tied_of set.list y least found.passes

    least_number : number_of set.extents least ≡ found.place
    least_number = number_at set.extents y all (length set.dates) found.place refl found.below

    least_alone : list_any (are_tied set.list least) (take (number_of set.extents least) all) ≡ false
    least_alone =
        let P : ℕ → Type 0 = λ k. list_any (are_tied set.list least) (take k all) ≡ false in
        subst P (sym least_number)
        (any_less (are_tied set.list least) (are_tied set.list y) (take found.place all)
        (λ z e. of_tied set.list y z (tied_on set.list y least z least_tied (tied_of set.list least z e))) found.first)

    least_is_least : Contains (least_points set) least
    least_is_least = is_least_of least (record {
      in_range = among_points set.extents (length set.dates) least (found.place, found.below, same_at all found.place least y found.below);
      loops = strict_there set.list least y (tied_back set.list y least least_tied) loop;
      alone = least_alone;
    })

  -- the orders of a way back to a point of the tangle are listed
  pub along_tangle : (x y : Point) (ns : List ℕ) → Tied set.list x y → IsWalk set.list y y ns → All (λ n. Contains (tangle_at set x).orders n) ns
  along_tangle x y ns back walk = λ k d h.
      (let n : ℕ = get_or ns k d in
      let on : On set.list y y n = on_walk set.list y y ns n walk (k, h, here ns k d n h refl) in
      let ends = ends_tied set.list y n on in
      listed x n on.below (tied_on set.list x y (order_at set.list n).low back ends.0) (tied_on set.list x y (order_at set.list n).high back ends.1))

  pub cycle_in_tangle : (ns : List ℕ) → IsCycle set.list ns →
      (x : Point) × (Contains (least_points set) x × All (λ n. Contains (tangle_at set x).orders n) ns)
  cycle_in_tangle ns cycle =
      let y : Point = cycle.0 in
      let in_y : IsPoint set.extents (length set.dates) y = point_of_walk y y ns cycle.1.0.0 cycle.1.0.1 in
      let loop : Reaches set.list y y true = record { path = ns; walk = cycle.1.0.1; shows = λ _. cycle.1.1 } in
      let x : Point = least y in_y loop in
      (x, (least_is_least y in_y loop, along_tangle x y ns (tied_back set.list y x (least_tied y in_y loop)) cycle.1.0.1))

  pub cycle_order_listed : (ns : List ℕ) (n : ℕ) → IsCycle set.list ns → Contains ns n → IsListed n
  cycle_order_listed ns n cycle c =
      let found = cycle_in_tangle ns cycle in
      let P : ℕ → Type 0 = λ m. Contains (tangle_at set found.0).orders m in
      (found.0, (found.1.0, subst P c.2 (found.1.1 c.0 n c.1)))

  -- a point stands at its number
  stands : (x : Point) → IsPoint set.extents (length set.dates) x → get_or all (number_of set.extents x) x ≡ x
  stands x in_x =
      let k : ℕ = number_of set.extents x in
      let below : k < length all = omega (arith, number_within set.extents (length set.dates) x in_x, length_points all set.extents (length set.dates) refl) in
      number_injective set.extents (length set.dates) (get_or all k x) x (point_in_range all set.extents (length set.dates) k x refl below) in_x
      (number_at set.extents x all (length set.dates) k refl below)

  -- of two least points that are tied, neither comes first
  never_before : (x y : Point) → Least x → Least y → Tied set.list x y → number_of set.extents x < number_of set.extents y → ⊥
  never_before x y lx ly t before =
      let k : ℕ = number_of set.extents x in
      let at_x : get_or all k x ≡ x = stands x lx.in_range in
      let within : k < length (take (number_of set.extents y) all) = omega (arith, length-take (number_of set.extents y) all, number_within set.extents (length set.dates) x lx.in_range, length_points all set.extents (length set.dates) refl) in
      let there : get_or (take (number_of set.extents y) all) k x ≡ x = get_or-take (number_of set.extents y) all k x before ∙ at_x in
      let P : Point → Type 0 = λ z. are_tied set.list y z ≡ true in
      true≢false (sym (list_any_at (are_tied set.list y) (take (number_of set.extents y) all) k x within (subst P (sym there) (of_tied set.list y x (tied_back set.list x y t)))) ∙ ly.alone)

  pub one_tangle : (x y : Point) (n : ℕ) → Contains (least_points set) x → Contains (least_points set) y →
      Contains (tangle_at set x).orders n → Contains (tangle_at set y).orders n → x ≡ y
  one_tangle x y n c d e f =
      let lx : Least x = least_is x c in
      let ly : Least y = least_is y d in
      let t : Tied set.list x y = tied_on set.list x (order_at set.list n).low y (is_listed x n e).low (tied_back set.list y (order_at set.list n).low (is_listed y n f).low) in
      number_injective set.extents (length set.dates) x y lx.in_range ly.in_range
      (elim (cases_lt (number_of set.extents x) (number_of set.extents y)) [
        | inl less ↦ absurd (never_before x y lx ly t less)
        | inr most ↦ elim (cases_lt (number_of set.extents y) (number_of set.extents x)) [
          | inl less ↦ absurd (never_before y x ly lx (tied_back set.list x y t) less)
          | inr least ↦ omega arith
        ]
      ])
