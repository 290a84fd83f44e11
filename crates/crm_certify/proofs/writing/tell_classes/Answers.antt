use Rattle.std.proofs.lemmas.Result.{err_from_is_err_and}
use Rattle.crm_certify.proofs.Limited.{starved_some}
use Rattle.crm_certify.proofs.writing.tell_classes.Goals as goal

pub returns-in_err-faults : goal.returns-in_err-faults
returns-in_err-faults g c =
    let p = err_from_is_err_and c.from_residual.result c.from_residual.ensures.1 in rw (p.1, p.2) (starved_some g.W.Sink.written g.W.Sink.faults g.W.Sink.sure c.args.out.now)

pub returns-in_err-types : goal.returns-in_err-types
returns-in_err-types g c =
    let p = err_from_is_err_and c.from_residual-in_err-types.result c.from_residual-in_err-types.ensures.1 in rw (p.1, p.2) (starved_some g.W.Sink.written g.W.Sink.faults g.W.Sink.sure c.args.out.now)

pub returns-in_err-due : goal.returns-in_err-due
returns-in_err-due g c =
    let p = err_from_is_err_and c.from_residual-in_err-due.result c.from_residual-in_err-due.ensures.1 in rw (p.1, p.2) (starved_some g.W.Sink.written g.W.Sink.faults g.W.Sink.sure c.args.out.now)
