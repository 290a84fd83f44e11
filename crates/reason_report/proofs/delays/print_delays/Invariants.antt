use Rattle.std.proofs.Common.{take}
use Rattle.std.specs.List.{flat_map}
use Rattle.crm_outside.specs.Printing.{Printed}
use Rattle.reason_report.specs.Reason.{delay_lines}
use Rattle.reason_report.proofs.delays.print_delays.Given as goal

abbrev pub invariant-loop-i : goal.invariant-loop-i
invariant-loop-i g l = Printed g.W.Sink.written g.W.Sink.faults g.W.Sink.sure l.fn.out l.out (flat_map (delay_lines l.placings) (take l.i l.analysis.periods))
