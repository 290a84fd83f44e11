use Rattle.order_certificates.proofs.drafts.count_drafts.Given as goal

abbrev pub invariant-loop-turn : goal.invariant-loop-turn
invariant-loop-turn g l = g.P.Drafts.IsReady l.drafts
