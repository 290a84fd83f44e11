use Rattle.std.proofs.Common.{◌≡◌, take}
use Rattle.triple_pool.specs.Pool.{number_from}
use Rattle.triple_pool.proofs.pool.TriplePool.build.Given as goal

abbrev pub invariant-loop-i : goal.invariant-loop-i
invariant-loop-i l = l.pool ≡ record { pairs = number_from 0 (take l.i l.triples); used = l.i }
