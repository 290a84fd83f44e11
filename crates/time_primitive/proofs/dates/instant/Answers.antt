use Rattle.std.proofs.Common.{◌≡◌, arith, ap, ap₂, ◌∙◌, FitsSigned, to_z, of_z}
use mir.Syntax.{w16, w128}
use Rattle.std.specs.Prelude.{ℤ, pos, ◌+ℤ◌, ◌-ℤ◌, ◌*ℤ◌}
use Rattle.std.proofs.lemmas.Int.{ints, to_z-of_z}
use Rattle.time_primitive.proofs.dates.instant.Goals as goal

together : (d t o e u p : ℤ) → d ≡ e → t ≡ u → o ≡ p → (d *ℤ pos 86_400_000_000_000 +ℤ t) -ℤ o ≡ (e *ℤ pos 86_400_000_000_000 +ℤ u) -ℤ p
together d t o e u p days times offsets =
    ap₂ (λ (x y : ℤ). (x *ℤ pos 86_400_000_000_000 +ℤ y) -ℤ o) days times ∙ ap (λ (z : ℤ). (e *ℤ pos 86_400_000_000_000 +ℤ u) -ℤ z) offsets

pub returns-clause-value : goal.returns-clause-value
returns-clause-value c =
    let is : c.total.result ≡ (c.day_number.result *ℤ pos 86_400_000_000_000 +ℤ c.clock.result) -ℤ c.shift.result = omega (arith, ints, c.total.ensures.value) in
    let parts = together c.day_number.result c.clock.result c.shift.result _ _ _ c.day_number.ensures.value c.clock.ensures.value c.shift.ensures.value in
    let fits : FitsSigned w16 c.args.year = c.ranges.year in
    let read = simp to_z-of_z at parts in
    let outer : to_z w128 (of_z w128 c.total.result) ≡ c.total.result = omega (arith, ints) in
    outer ∙ is ∙ read
