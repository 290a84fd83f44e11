use Rattle.std.proofs.Common.{take}
use Rattle.crm_outside.specs.Printing.{Printed, lines_from}
use Rattle.dating_reports.specs.When.{moment_lines}
use Rattle.dating_reports.proofs.moments.print_moments.Given as goal

abbrev pub invariant-loop-i : goal.invariant-loop-i
invariant-loop-i g l = Printed g.W.Sink.written g.W.Sink.faults g.W.Sink.sure l.fn.out l.out (lines_from (λ _ k. moment_lines l.shares l.date k) 0 (take l.i l.periods))
