use Rattle.std.proofs.Common.{take}
use Rattle.crm_outside.specs.Printing.{Printed, lines_from}
use Rattle.reason_report.specs.Reason.{delay_line}
use Rattle.dating_reports.proofs.dating.print_all_delays.Given as goal

abbrev pub invariant-loop-k : goal.invariant-loop-k
invariant-loop-k g l = Printed g.W.Sink.written g.W.Sink.faults g.W.Sink.sure l.fn.out l.out (lines_from (λ _ p. delay_line l.placings p) 0 (take l.k l.points))
