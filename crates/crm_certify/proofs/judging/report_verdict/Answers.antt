use Rattle.crm_certify.proofs.Limited.{judged_written, judged_passed}
use Rattle.crm_certify.proofs.judging.report_verdict.Goals as goal

pub returns-in-Ok : goal.returns-in-Ok
returns-in-Ok g c =
    judged_written g.W.Sink.written g.W.Sink.faults g.W.Sink.sure _ _ c.args.records.now _ c.args.cert.now _ c.in-Ok.ensures.ok.dossier
    c.in-Ok.ensures.ok.few c.tell_judgement.ensures

pub returns-in-Err : goal.returns-in-Err
returns-in-Err g c =
    judged_passed g.W.Sink.written g.W.Sink.faults g.W.Sink.sure _ _ c.args.records.now _ c.args.cert.now _ c.in-Err.ensures.err c.tell_passed.ensures
