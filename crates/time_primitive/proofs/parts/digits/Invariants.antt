use Rattle.std.proofs.Common.{◌≡◌, ◌<◌, ℕ, get_or, false}
use Rattle.std.specs.Prelude.{not}
use Rattle.time_primitive.specs.Parts.{is_digit_byte}
use Rattle.time_primitive.proofs.parts.digits.Given as goal

abbrev pub invariant-loop-i : goal.invariant-loop-i
invariant-loop-i l = (k : ℕ) → k < l.i → not (is_digit_byte (get_or l.text k 0)) ≡ false
