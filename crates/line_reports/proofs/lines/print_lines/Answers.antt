use Rattle.std.proofs.Common.{arith, ◌∙◌}
use Rattle.std.proofs.lemmas.Result.{err_from_is_err_and}
use Rattle.crm_outside.proofs.Lists.{within}
use Rattle.crm_outside.proofs.PrintedLines.{no_line, next_line, broken_line}
use Rattle.line_reports.specs.Lines.{triple_line}
use Rattle.line_reports.proofs.lines.print_lines.Goals as goal

pub loop-k-init : goal.loop-k-init
loop-k-init g c = record {
  printed = no_line (triple_line c.args.names.now c.args.bytes.now) c.args.triples.now g.W.Sink.written g.W.Sink.faults g.W.Sink.sure c.args.out.now;
  places = c.new-places.ensures;
}

pub unreachable-requires : goal.unreachable-requires
unreachable-requires g c = within c.args.triples.now c.loop-k.k (omega (arith, c.len-k-end.ensures.len)) c.in_default.ensures

pub returns-in_err-print_line : goal.returns-in_err-print_line
returns-in_err-print_line g c =
    let p = err_from_is_err_and c.from_residual.result c.from_residual.ensures.1 in
    let broken = rw c.loop-k.invariant.places at c.in_err-print_line.ensures.prints.err in rw (p.1, p.2) (record {
      ok = tt;
      err = broken_line (triple_line c.args.names.now c.args.bytes.now) c.args.triples.now g.W.Sink.written g.W.Sink.faults g.W.Sink.sure c.loop-k.k c.in-Some.triple c.in-Some.ensures _ _ _ _ c.loop-k.invariant.printed broken;
    })

pub loop-k-preserved : goal.loop-k-preserved
loop-k-preserved g c =
    let printed = rw c.loop-k.invariant.places at c.in_ok-print_line.ensures.prints.ok in record {
      printed = next_line (triple_line c.args.names.now c.args.bytes.now) c.args.triples.now g.W.Sink.written g.W.Sink.faults g.W.Sink.sure c.loop-k.k c.in-Some.triple c.in-Some.ensures _ _ _ c.loop-k.invariant.printed printed;
      places = c.in_ok-print_line.ensures.same ∙ c.loop-k.invariant.places;
    }
