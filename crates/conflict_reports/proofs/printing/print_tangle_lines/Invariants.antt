use Rattle.std.proofs.Common.{take}
use Rattle.crm_outside.specs.Printing.{Printed, lines_from}
use Rattle.conflict_reports.specs.Texts.{tangle_line}
use Rattle.conflict_reports.proofs.printing.print_tangle_lines.Given as goal

abbrev pub invariant-loop-k : goal.invariant-loop-k
invariant-loop-k g l = Printed g.W.Sink.written g.W.Sink.faults g.W.Sink.sure l.fn.out l.out (lines_from tangle_line 0 (take l.k l.tangles))
