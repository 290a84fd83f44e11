use Rattle.crm_run.proofs.Verdicts.{accepted_of}
use Rattle.crm_run.proofs.verifying.judge.Goals as goal

pub returns-in-Ok-clause-verdict : goal.returns-in-Ok-clause-verdict
returns-in-Ok-clause-verdict g c =
    accepted_of g.W.Sink.written g.W.Sink.faults g.W.Sink.sure c.args.out.now c.write_verdict.new.out c.args.archive.now.records c.args.cert.now c.in-Ok.bytes
    c.write_verdict.result c.ended.result c.ended.ensures (rw c.as_slice.ensures at c.write_verdict.ensures) (g.S.Shelf.files c.args.shelf.now) c.in-Ok.ensures.ok
