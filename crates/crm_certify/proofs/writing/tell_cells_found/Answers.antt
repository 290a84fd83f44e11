use Rattle.std.proofs.Common.{subst}
use Rattle.std.proofs.lemmas.Result.{err_from_is_err_and}
use Rattle.order_analysis.specs.Subjects.{Subject, cycle_of}
use Rattle.crm_certify.specs.Certificates.{WritesMatrix}
use Rattle.crm_certify.proofs.Limited.{starved_matrix}
use Rattle.crm_certify.proofs.writing.tell_cells_found.Goals as goal

pub returns-in_err-analysis : goal.returns-in_err-analysis
returns-in_err-analysis g c =
    let p = err_from_is_err_and c.from_residual.result c.from_residual.ensures.1 in
    rw (p.1, p.2) (starved_matrix g.W.Sink.written g.W.Sink.faults g.W.Sink.sure c.args.out.now (cycle_of c.args.dossier.now.orders))

pub returns : goal.returns
returns g c =
    subst (λ (s : Subject). WritesMatrix g.W.Sink.written g.W.Sink.faults g.W.Sink.sure c.args.out.now c.tell_cells.new.out (cycle_of s.set) c.tell_cells.result)
    c.in_ok-analysis.ensures.subject c.tell_cells.ensures
