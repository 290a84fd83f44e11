use Rattle.std.proofs.Common.{◌<◌, ◌≤◌, ◌^◌, ℕ, arith}
use Rattle.std.proofs.Math.Nat.{pow-le-pow_right}
use Rattle.rdf_chars.proofs.escapes.number.Goals as goal

bound : (v i : ℕ) → v < 16 ^ i → i ≤ 8 → v < 4294967296
bound v i h k = let m : 16 ^ i ≤ 16 ^ 8 = pow-le-pow_right (omega arith) k in omega (arith, m)

pub overflow_mul-value : goal.overflow_mul-value
overflow_mul-value c = let b = bound c.loop-c.value c.loop-c.c-index c.loop-c.invariant.1 (omega arith) in omega (arith, b)

pub overflow_add-value : goal.overflow_add-value
overflow_add-value c = let b = bound c.loop-c.value c.loop-c.c-index c.loop-c.invariant.1 (omega arith) in omega (arith, b, c.from.ensures, c.in-Some.ensures.value)

pub overflow_cast-result : goal.overflow_cast-result
overflow_cast-result c = let b = bound c.loop-c.value c.loop-c.c-index c.loop-c.invariant.1 (omega arith) in omega (arith, b)
