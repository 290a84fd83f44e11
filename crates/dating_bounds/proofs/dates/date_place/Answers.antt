use Rattle.std.proofs.Common.{◌≡◌, ℕ, ℤ, pos, ◌<◌, length, get_or, arith, false, sym, subst, rules}
use Rattle.std.specs.Prelude.{int_le}
use Rattle.std.proofs.lemmas.Int.{ints, to_z-of_z}
use Rattle.std.proofs.lemmas.List.Sums.{position_or_len_is}
use mir.Syntax.{w128}
use mir.Val.{SFits, to_z, of_z}
use Rattle.dating_bounds.proofs.dates.date_place.Goals as goal

pub returns-then-t-dates-clause-value : goal.returns-then-t-dates-clause-value
returns-then-t-dates-clause-value c =
    let fit : SFits w128 c.args.t = search rules in
    let e : to_z w128 (of_z w128 c.args.t) ≡ c.args.t = to_z-of_z w128 c.args.t fit in
    let inv = subst (λ (z : ℤ). (j : ℕ) → j < c.loop-k.k → int_le z (get_or c.args.dates.now j (pos 0)) ≡ false) e c.loop-k.invariant in
    sym (position_or_len_is (int_le c.args.t) c.args.dates.now c.loop-k.k (pos 0) (omega arith) inv
    (λ h. grind (arith, ints, e, c.if-t-dates.true)))

pub returns-clause-value : goal.returns-clause-value
returns-clause-value c =
    let fit : SFits w128 c.args.t = search rules in
    let e : to_z w128 (of_z w128 c.args.t) ≡ c.args.t = to_z-of_z w128 c.args.t fit in
    let inv = subst (λ (z : ℤ). (j : ℕ) → j < c.loop-k.k → int_le z (get_or c.args.dates.now j (pos 0)) ≡ false) e c.loop-k.invariant in
    sym (position_or_len_is (int_le c.args.t) c.args.dates.now (length c.args.dates.now) (pos 0) (omega arith)
    (λ j h. inv j (omega arith)) (λ h. absurd (omega arith)))
