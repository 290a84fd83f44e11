use Rattle.std.proofs.Common.{List, ℕ, subst}
use Rattle.report_base.specs.declared.status.Status.TheVariants.{Done}
use Rattle.report_base.specs.Reports.{Writes}
use Rattle.crm_certify.specs.Lengths.{within_length}
use Rattle.crm_certify.proofs.telling.tell_consistent.Goals as goal

pub returns : goal.returns
returns g c =
    subst (λ (t : List ℕ). Writes g.W.Sink.written g.W.Sink.faults g.W.Sink.sure c.args.out.now c.tell_pieces.new.out (within_length (record { status = Done; text = t })) c.tell_pieces.result)
    c.new-first.ensures.text c.tell_pieces.ensures
