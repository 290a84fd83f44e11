use Rattle.std.proofs.Common.{take}
use Rattle.crm_outside.specs.Printing.{Printed, lines_from}
use Rattle.crm_matrix.specs.MatrixTexts.{unit_text}
use Rattle.crm_matrix.proofs.matrix_report.print_units.Given as goal

abbrev pub invariant-loop-k : goal.invariant-loop-k
invariant-loop-k g l = Printed g.W.Sink.written g.W.Sink.faults g.W.Sink.sure l.fn.out l.out (lines_from (λ _ t. unit_text l.names l.dossier.extents t) 0 (take l.k l.triples))
