use Rattle.std.proofs.Common.{take}
use Rattle.crm_outside.specs.Printing.{Printed, lines_from}
use Rattle.ntriples_writer.specs.Lines.{canonical_line}
use Rattle.allen_reports.proofs.moving.print_lines.Given as goal

abbrev pub invariant-loop-k : goal.invariant-loop-k
invariant-loop-k g l = Printed g.W.Sink.written g.W.Sink.faults g.W.Sink.sure l.fn.out l.out (lines_from (λ _ t. canonical_line l.names t) 0 (take l.k l.triples))
