use Rattle.std.proofs.Common.{take}
use Rattle.crm_outside.specs.Printing.{Printed, lines_from}
use Rattle.calendar_reports.specs.Dates.{period_line}
use Rattle.calendar_reports.proofs.rows.print_period_lines.Given as goal

abbrev pub invariant-loop-i : goal.invariant-loop-i
invariant-loop-i g l = Printed g.W.Sink.written g.W.Sink.faults g.W.Sink.sure l.fn.out l.out (lines_from (λ _ k. period_line l.names l.dossier.extents l.analysis.set k) 0 (take l.i l.analysis.periods))
