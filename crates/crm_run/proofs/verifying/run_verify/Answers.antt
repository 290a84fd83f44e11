use Rattle.std.proofs.Common.{Err, ap, arith}
use Rattle.crm_core.specs.declared.faults.ArchiveFault.{ArchiveFault}
use Rattle.crm_run.proofs.Runs.{verify_not_read, verify_run}
use Rattle.crm_run.proofs.verifying.run_verify.Goals as goal

pub returns-in-Err : goal.returns-in-Err
returns-in-Err g c =
    verify_not_read g.W.Sink.written g.W.Sink.faults g.W.Sink.sure c.args.out.now c.print_archive_fault.new.out _ _ _ c.args.base.now c.args.file.now c.in-Err.fault
    c.print_archive_fault.result (rw c.text_in.ensures at c.in-Err.ensures.answer) (λ e. c.in-Err.ensures.failed (ap (λ (x : ArchiveFault). Err x) e))
    (λ honest e. (c.in-Err.ensures.missing honest).0 (ap (λ (x : ArchiveFault). Err x) e)) c.print_archive_fault.ensures c.args.cert.now

pub returns-in-Ok : goal.returns-in-Ok
returns-in-Ok g c =
    verify_run g.W.Sink.written g.W.Sink.faults g.W.Sink.sure c.args.out.now c.judge.new.out _ _ _ c.args.base.now c.args.file.now c.in-Ok.archive.records
    (rw c.text_in.ensures at c.in-Ok.ensures.answer) c.args.cert.now c.judge.result c.judge.ensures.usage
    (λ e. let rose = c.judge.ensures.read e in let later = c.in-Ok.ensures.later in omega (arith, rose, later)) c.judge.ensures.write
    (rw c.in-Ok.ensures.files at c.judge.ensures.verdict)
