use Rattle.std.proofs.lemmas.Result.{err_from_is_err_and}
use Rattle.reason_report.proofs.ConsistentText.{stop1, stop2, stop3, stop4, stop5, whole}
use Rattle.reason_report.proofs.report.print_consistent.Goals as goal

pub returns-in_err-print_text-clause-prints : goal.returns-in_err-print_text-clause-prints
returns-in_err-print_text-clause-prints g c =
    let p = err_from_is_err_and c.from_residual.result c.from_residual.ensures.1 in rw (p.1, p.2) (record {
      ok = tt;
      err = stop1 g.W.Sink.written g.W.Sink.faults g.W.Sink.sure c.args.analysis.now.set c.args.analysis.now.periods _ _ _ c.in_err-print_text.ensures.prints.err;
    })

pub returns-in_err-print_plain-clause-prints : goal.returns-in_err-print_plain-clause-prints
returns-in_err-print_plain-clause-prints g c =
    let p = err_from_is_err_and c.from_residual-in_err-print_plain.result c.from_residual-in_err-print_plain.ensures.1 in rw (p.1, p.2) (record {
      ok = tt;
      err = stop2 g.W.Sink.written g.W.Sink.faults g.W.Sink.sure c.args.analysis.now.set c.args.analysis.now.periods _ _ c.in_ok-print_text.ensures.prints.ok
          _ c.in-Ok.ensures _ _ c.in_err-print_plain.ensures.err;
    })

pub returns-in_err-print_relations-clause-prints : goal.returns-in_err-print_relations-clause-prints
returns-in_err-print_relations-clause-prints g c =
    let p = err_from_is_err_and c.from_residual-in_err-print_relations.result c.from_residual-in_err-print_relations.ensures.1 in rw (p.1, p.2) (record {
      ok = tt;
      err = stop3 g.W.Sink.written g.W.Sink.faults g.W.Sink.sure c.args.analysis.now.set c.args.analysis.now.periods _ _ c.in_ok-print_text.ensures.prints.ok
          _ c.in-Ok.ensures _ c.in_ok-print_plain.ensures.ok _ _ c.in_err-print_relations.ensures.err;
    })

pub returns-in_err-print_delays-clause-prints : goal.returns-in_err-print_delays-clause-prints
returns-in_err-print_delays-clause-prints g c =
    let p = err_from_is_err_and c.from_residual-in_err-print_delays.result c.from_residual-in_err-print_delays.ensures.1 in rw (p.1, p.2) (record {
      ok = tt;
      err = stop4 g.W.Sink.written g.W.Sink.faults g.W.Sink.sure c.args.analysis.now.set c.args.analysis.now.periods _ _ c.in_ok-print_text.ensures.prints.ok
          _ c.in-Ok.ensures _ c.in_ok-print_plain.ensures.ok _ c.in_ok-print_relations.ensures.ok _ _ c.in_err-print_delays.ensures.err;
    })

pub returns-in_err-print_count-clause-prints : goal.returns-in_err-print_count-clause-prints
returns-in_err-print_count-clause-prints g c =
    let p = err_from_is_err_and c.from_residual-in_err-print_count.result c.from_residual-in_err-print_count.ensures.1 in rw (p.1, p.2) (record {
      ok = tt;
      err = stop5 g.W.Sink.written g.W.Sink.faults g.W.Sink.sure c.args.analysis.now.set c.args.analysis.now.periods _ _ c.in_ok-print_text.ensures.prints.ok
          _ c.in-Ok.ensures _ c.in_ok-print_plain.ensures.ok _ c.in_ok-print_relations.ensures.ok _ c.in_ok-print_delays.ensures.ok
          _ c.count_relations.ensures _ _ c.in_err-print_count.ensures.err;
    })

pub returns-clause-prints : goal.returns-clause-prints
returns-clause-prints g c = record {
  ok = whole g.W.Sink.written g.W.Sink.faults g.W.Sink.sure c.args.analysis.now.set c.args.analysis.now.periods _ _ c.in_ok-print_text.ensures.prints.ok
      _ c.in-Ok.ensures _ c.in_ok-print_plain.ensures.ok _ c.in_ok-print_relations.ensures.ok _ c.in_ok-print_delays.ensures.ok
      _ c.count_relations.ensures _ c.in_ok-print_count.ensures.ok;
  err = tt;
}
