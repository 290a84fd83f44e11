use Rattle.std.proofs.Common.{arith}
use Rattle.reason_report.specs.Relations.{relations_from}
use Rattle.reason_report.proofs.Counts.{counts_one}
use Rattle.reason_report.proofs.counting.count_relations.Goals as goal

pub loop-i-preserved : goal.loop-i-preserved
loop-i-preserved c = record {
  counted = omega (
    arith,
    c.loop-i.invariant.counted,
    c.count_row-count.ensures.count,
    counts_one (relations_from c.args.analysis.now.set.list c.args.analysis.now.periods) c.args.analysis.now.periods c.loop-i.i c.in-Some.a c.in-Some.ensures.period,
  );
  few = omega (arith, c.loop-i.invariant.few, c.count_row-count.ensures.few);
}
