use Rattle.std.proofs.Common.{take}
use Rattle.std.specs.List.{flat_map}
use Rattle.crm_outside.specs.Printing.{Printed}
use Rattle.reason_report.specs.Reason.{pair_text}
use Rattle.reason_report.proofs.relations.print_row.Given as goal

abbrev pub invariant-loop-i : goal.invariant-loop-i
invariant-loop-i g l = Printed g.W.Sink.written g.W.Sink.faults g.W.Sink.sure l.fn.out l.out (flat_map (pair_text l.analysis.set.list l.row.period) (take l.i l.analysis.periods))
