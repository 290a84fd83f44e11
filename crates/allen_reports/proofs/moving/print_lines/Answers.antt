use Rattle.std.proofs.Common.{arith}
use Rattle.std.proofs.lemmas.Result.{err_from_is_err_and}
use Rattle.crm_outside.proofs.Lists.{within}
use Rattle.crm_outside.proofs.PrintedLines.{no_line, next_line, broken_line}
use Rattle.ntriples_writer.specs.Lines.{canonical_line}
use Rattle.allen_reports.proofs.moving.print_lines.Goals as goal

pub loop-k-init : goal.loop-k-init
loop-k-init g c = no_line (λ _ t. canonical_line c.args.names.now t) c.args.triples.now g.W.Sink.written g.W.Sink.faults g.W.Sink.sure c.args.out.now

pub unreachable-requires : goal.unreachable-requires
unreachable-requires g c = within c.args.triples.now c.loop-k.k (omega (arith, c.len-k-end.ensures.len)) c.in_default.ensures

pub returns-in_err-print_triple : goal.returns-in_err-print_triple
returns-in_err-print_triple g c =
    let p = err_from_is_err_and c.from_residual.result c.from_residual.ensures.1 in rw (p.1, p.2) (record {
      ok = tt;
      err = broken_line (λ _ t. canonical_line c.args.names.now t) c.args.triples.now g.W.Sink.written g.W.Sink.faults g.W.Sink.sure c.loop-k.k c.in-Some.triple c.in-Some.ensures _ _ _ _ c.loop-k.invariant c.in_err-print_triple.ensures.err;
    })

pub loop-k-preserved : goal.loop-k-preserved
loop-k-preserved g c =
    next_line (λ _ t. canonical_line c.args.names.now t) c.args.triples.now g.W.Sink.written g.W.Sink.faults g.W.Sink.sure c.loop-k.k c.in-Some.triple c.in-Some.ensures _ _ _ c.loop-k.invariant c.in_ok-print_triple.ensures.ok
