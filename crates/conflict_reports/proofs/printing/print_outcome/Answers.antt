use Rattle.conflict_reports.proofs.printing.print_outcome.Goals as goal

pub returns-in-None : goal.returns-in-None
returns-in-None g c = rw c.in-None.is c.print_text.ensures.prints
