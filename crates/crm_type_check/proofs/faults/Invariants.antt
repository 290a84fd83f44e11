use Rattle.std.proofs.Common.{◌≡◌}
use Rattle.std.specs.List.{flat_map}
use Rattle.crm_type_check.specs.Relations.{faults_at}
use Rattle.crm_type_check.proofs.faults.Given as goal

abbrev pub invariant-loop-number : goal.invariant-loop-number
invariant-loop-number l = l.found ≡ flat_map (faults_at l.names l.pool.pairs) l.yielded
