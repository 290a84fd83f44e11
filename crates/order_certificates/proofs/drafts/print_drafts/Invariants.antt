use Rattle.std.proofs.Common.{List, ℕ}
use Rattle.crm_outside.specs.Printing.{Printed}
use Rattle.order_certificates.proofs.drafts.print_drafts.Given as goal

abbrev pub invariant-loop-turn : goal.invariant-loop-turn
invariant-loop-turn g l = g.P.Drafts.IsReady l.drafts × ((t : List ℕ) × Printed g.W.Sink.written g.W.Sink.faults g.W.Sink.sure l.fn.out l.out t)
