use Rattle.std.proofs.Common.{◌≡◌, ◌++◌, take}
use Rattle.std.specs.List.{flat_map}
use Rattle.reason_report.specs.Answers.{step_line}
use Rattle.reason_report.proofs.answers.append_steps.Given as goal

abbrev pub invariant-loop-n : goal.invariant-loop-n
invariant-loop-n l = l.line.items ≡ l.fn.line.items ++ flat_map (step_line l.set.list) (take l.n-index l.chain)
