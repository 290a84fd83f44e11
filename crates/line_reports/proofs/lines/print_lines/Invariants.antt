use Rattle.std.proofs.Common.{◌≡◌, take}
use Rattle.crm_outside.specs.Printing.{Printed, lines_from}
use Rattle.line_reports.specs.Lines.{triple_line}
use Rattle.line_reports.proofs.lines.print_lines.Given as goal

abbrev pub invariant-loop-k : goal.invariant-loop-k
invariant-loop-k g l = record {
  printed : Printed g.W.Sink.written g.W.Sink.faults g.W.Sink.sure l.fn.out l.out (lines_from (triple_line l.names l.bytes) 0 (take l.k l.triples));
  places : l.places ≡ l.bytes;
}
