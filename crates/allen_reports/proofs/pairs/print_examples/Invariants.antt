use Rattle.std.proofs.Common.{take}
use Rattle.crm_outside.specs.Printing.{Printed, lines_from}
use Rattle.crm_allen.specs.Names.{all_relations}
use Rattle.allen_reports.specs.Relations.{example_text, text_if}
use Rattle.allen_reports.proofs.pairs.print_examples.Given as goal

abbrev pub invariant-loop-r : goal.invariant-loop-r
invariant-loop-r g l = Printed g.W.Sink.written g.W.Sink.faults g.W.Sink.sure l.fn.out l.out (lines_from (λ _ r. text_if l.relations (example_text l.analysis.set l.pair.left l.pair.right) r) 0 (take l.r-index all_relations))
