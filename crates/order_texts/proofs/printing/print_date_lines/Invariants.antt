use Rattle.std.proofs.Common.{take}
use Rattle.crm_outside.specs.Printing.{Printed, lines_from}
use Rattle.order_texts.specs.Texts.{date_line}
use Rattle.order_texts.proofs.printing.print_date_lines.Given as goal

abbrev pub invariant-loop-k : goal.invariant-loop-k
invariant-loop-k g l = Printed g.W.Sink.written g.W.Sink.faults g.W.Sink.sure l.fn.out l.out (lines_from date_line 0 (take l.k l.dates))
