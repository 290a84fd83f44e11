use Rattle.std.proofs.Common.{◌≡◌, ◌++◌, take}
use Rattle.std.specs.List.{flat_map}
use Rattle.allen_reports.specs.Relations.{pair_text}
use Rattle.allen_reports.proofs.tables.append_row.Given as goal

abbrev pub invariant-loop-b : goal.invariant-loop-b
invariant-loop-b l = l.line.items ≡ l.fn.line.items ++ flat_map (pair_text l.analysis.set.list l.a) (take l.b-index l.periods)
