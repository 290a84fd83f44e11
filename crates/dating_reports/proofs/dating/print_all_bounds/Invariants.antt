use Rattle.std.proofs.Common.{take}
use Rattle.crm_outside.specs.Printing.{Printed, lines_from}
use Rattle.dating_reports.specs.Bounds.{bound_lines}
use Rattle.dating_reports.proofs.dating.print_all_bounds.Given as goal

abbrev pub invariant-loop-k : goal.invariant-loop-k
invariant-loop-k g l = Printed g.W.Sink.written g.W.Sink.faults g.W.Sink.sure l.fn.out l.out (lines_from (λ _ p. bound_lines l.analysis.set p) 0 (take l.k l.points))
