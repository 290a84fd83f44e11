use Rattle.std.proofs.Common.{refl, inl}
use Rattle.std.proofs.lemmas.Result.{err_from_is_err_and}
use Rattle.report_base.specs.declared.status.Status.TheVariants.{Done}
use Rattle.crm_certify.proofs.Limited.{starved_some}
use Rattle.crm_certify.proofs.telling.tell_drafts.Goals as goal

pub returns-in_err-count : goal.returns-in_err-count
returns-in_err-count g c =
    let p = err_from_is_err_and c.from_residual.result c.from_residual.ensures.1 in rw (p.1, p.2) (starved_some g.W.Sink.written g.W.Sink.faults g.W.Sink.sure c.args.out.now)

pub returns-in_err-print_drafts : goal.returns-in_err-print_drafts
returns-in_err-print_drafts g c =
    let printed = c.in_err-print_drafts.ensures in
    let p = err_from_is_err_and c.from_residual-in_err-print_drafts.result c.from_residual-in_err-print_drafts.ensures.1 in (
      record { status = Done; text = printed.0 },
      (record { status = inl refl }, rw p.1 (record { status = tt; ok = tt; err = rw p.2 printed.1.err })),
    )

pub returns : goal.returns
returns g c =
    let printed = c.in_ok-print_drafts.ensures in
    (record { status = Done; text = printed.0 }, (record { status = inl refl }, record { status = (refl, tt); ok = printed.1.ok; err = tt }))
