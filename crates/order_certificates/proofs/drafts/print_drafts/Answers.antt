use Rattle.std.proofs.Common.{List, [], ◌++◌}
use Rattle.std.proofs.lemmas.Result.{err_from_is_err_and}
use Rattle.crm_outside.proofs.PrintedTexts.{printed_then, broken_later, broken_memory}
use Rattle.order_certificates.proofs.drafts.print_drafts.Goals as goal

pub returns-in_default : goal.returns-in_default
returns-in_default g c =
    let so_far = c.loop-turn.invariant.1 in
    (so_far.0 ++ [], record { ok = tt; err = broken_memory g.W.Sink.written g.W.Sink.faults g.W.Sink.sure _ _ so_far.0 [] so_far.1 })

pub returns-in_err-print_text : goal.returns-in_err-print_text
returns-in_err-print_text g c =
    let so_far = c.loop-turn.invariant.1 in
    let p = err_from_is_err_and c.from_residual.result c.from_residual.ensures.1 in (
      so_far.0 ++ c.as_slice.result.now,
      rw (p.1, p.2) (record {
        ok = tt;
        err = broken_later g.W.Sink.written g.W.Sink.faults g.W.Sink.sure _ _ _ so_far.0 c.as_slice.result.now _ so_far.1 c.in_err-print_text.ensures.prints.err;
      }),
    )

pub returns-then-not-more : goal.returns-then-not-more
returns-then-not-more g c =
    let so_far = c.loop-turn.invariant.1 in (
      so_far.0 ++ c.as_slice.result.now,
      record {
        ok = printed_then g.W.Sink.written g.W.Sink.faults g.W.Sink.sure _ _ _ so_far.0 c.as_slice.result.now so_far.1 c.in_ok-print_text.ensures.prints.ok;
        err = tt;
      },
    )

pub loop-turn-preserved : goal.loop-turn-preserved
loop-turn-preserved g c =
    let so_far = c.loop-turn.invariant.1 in (
      c.in-Ok.ensures.ready,
      (
        so_far.0 ++ c.as_slice.result.now,
        printed_then g.W.Sink.written g.W.Sink.faults g.W.Sink.sure _ _ _ so_far.0 c.as_slice.result.now so_far.1 c.in_ok-print_text.ensures.prints.ok,
      ),
    )

pub returns : goal.returns
returns g c =
    let so_far = c.loop-turn.invariant.1 in
    (so_far.0 ++ [], record { ok = tt; err = broken_memory g.W.Sink.written g.W.Sink.faults g.W.Sink.sure _ _ so_far.0 [] so_far.1 })
