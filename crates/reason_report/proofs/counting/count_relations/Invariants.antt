use Rattle.std.proofs.Common.{take, ◌≡◌, ◌≤◌, ◌*◌, ◌^◌}
use Rattle.std.specs.List.{flat_map}
use Rattle.reason_report.specs.Relations.{relations_from, count_primitives}
use Rattle.reason_report.proofs.counting.count_relations.Given as goal

abbrev pub invariant-loop-i : goal.invariant-loop-i
invariant-loop-i l = record {
  counted : l.count ≡ count_primitives (flat_map (relations_from l.analysis.set.list l.analysis.periods) (take l.i l.analysis.periods));
  few : l.count ≤ 2 ^ 23 * l.i;
}
