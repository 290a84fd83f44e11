use Rattle.std.proofs.Common.{arith}
use Rattle.reason_report.specs.Relations.{relations_between}
use Rattle.reason_report.proofs.Counts.{counts_one}
use Rattle.reason_report.proofs.counting.count_row.Goals as goal

pub loop-i-preserved : goal.loop-i-preserved
loop-i-preserved c = record {
  counted = omega (
    arith,
    c.loop-i.invariant.counted,
    c.count_pair-count.ensures.count,
    counts_one (relations_between c.args.analysis.now.set.list c.args.a) c.args.analysis.now.periods c.loop-i.i c.in-Some.b c.in-Some.ensures.period,
  );
  few = omega (arith, c.loop-i.invariant.few, c.count_pair-count.ensures.few);
}
