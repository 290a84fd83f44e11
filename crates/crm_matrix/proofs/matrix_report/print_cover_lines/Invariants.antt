use Rattle.std.proofs.Common.{take}
use Rattle.crm_outside.specs.Printing.{Printed, lines_from}
use Rattle.crm_matrix.specs.MatrixTexts.{cover_line}
use Rattle.crm_matrix.proofs.matrix_report.print_cover_lines.Given as goal

abbrev pub invariant-loop-k : goal.invariant-loop-k
invariant-loop-k g l = Printed g.W.Sink.written g.W.Sink.faults g.W.Sink.sure l.fn.out l.out (lines_from (λ _ p. cover_line p) 0 (take l.k l.covers))
