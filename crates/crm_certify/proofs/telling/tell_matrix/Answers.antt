use Rattle.std.proofs.lemmas.Result.{err_from_is_err_and}
use Rattle.crm_certify.proofs.Limited.{starved_some}
use Rattle.crm_certify.proofs.telling.tell_matrix.Goals as goal

pub build-requires-clause-closure : goal.build-requires-clause-closure
build-requires-clause-closure g c = rw c.set.ensures c.closure.ensures

pub build-requires-clause-consistent : goal.build-requires-clause-consistent
build-requires-clause-consistent g c = rw c.set.ensures c.requires.consistent

pub build-requires-clause-periods : goal.build-requires-clause-periods
build-requires-clause-periods g c = rw (c.set.ensures, c.periods.ensures.periods) c.periods.ensures.within

pub build-requires-clause-few : goal.build-requires-clause-few
build-requires-clause-few g c = rw c.periods.ensures.periods c.requires.few

pub returns-in_err-matrix : goal.returns-in_err-matrix
returns-in_err-matrix g c =
    let p = err_from_is_err_and c.from_residual.result c.from_residual.ensures.1 in rw (p.1, p.2) (starved_some g.W.Sink.written g.W.Sink.faults g.W.Sink.sure c.args.out.now)

pub returns-in_err-walks : goal.returns-in_err-walks
returns-in_err-walks g c =
    let p = err_from_is_err_and c.from_residual-in_err-walks.result c.from_residual-in_err-walks.ensures.1 in rw (p.1, p.2) (starved_some g.W.Sink.written g.W.Sink.faults g.W.Sink.sure c.args.out.now)
