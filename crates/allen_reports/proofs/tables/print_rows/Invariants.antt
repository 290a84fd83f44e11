use Rattle.std.proofs.Common.{take}
use Rattle.crm_outside.specs.Printing.{Printed, lines_from}
use Rattle.allen_reports.specs.Relations.{row_text}
use Rattle.allen_reports.proofs.tables.print_rows.Given as goal

abbrev pub invariant-loop-a : goal.invariant-loop-a
invariant-loop-a g l = Printed g.W.Sink.written g.W.Sink.faults g.W.Sink.sure l.fn.out l.out (lines_from (λ _ a. row_text l.analysis.set.list l.periods a) 0 (take l.a-index l.periods))
