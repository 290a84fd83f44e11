use Rattle.std.proofs.Common.{◌≡◌, ◌++◌, take}
use Rattle.std.specs.List.{flat_map}
use Rattle.reason_report.specs.Reason.{period_text}
use Rattle.crm_matrix.proofs.lines.append_periods.Given as goal

abbrev pub invariant-loop-k : goal.invariant-loop-k
invariant-loop-k l = l.line.items ≡ l.fn.line.items ++ flat_map period_text (take l.k-index l.periods)
