-- The first decimal place, and those behind it.
use Rattle.std.proofs.Common.{◌≡◌, ℕ, zero, suc, ◌+◌, ◌-◌, ◌*◌, ◌/◌, ◌%◌, ◌<◌, ◌∷◌, ◌==◌, false, refl, arith}
use Rattle.calendar_dates.specs.Texts.{places}
use Rattle.std.proofs.lemmas.Bool.{ne_eqb}

pub places_more : (k n : ℕ) → 0 < k → 0 < n → places k n ≡ (48 + n / 100_000_000) ∷ places (k - 1) (n % 100_000_000 * 10)
places_more zero n more some = absurd (omega arith)
places_more (suc k) n more some =
    let back : suc k - 1 ≡ k = omega arith in
    let is_some : (n == 0) ≡ false = ne_eqb n 0 (λ e. absurd (omega arith)) in
    rw (back, is_some) refl
