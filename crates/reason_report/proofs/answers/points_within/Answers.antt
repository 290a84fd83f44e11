use Rattle.std.proofs.Common.{length, refl}
use Rattle.reason_report.proofs.Points.{left_within, right_within}
use Rattle.reason_report.proofs.answers.points_within.Goals as goal

pub returns : goal.returns
returns c = rw c.points.ensures (record {
  points = refl;
  x = left_within c.args.primitive c.args.a c.args.b c.args.analysis.now.set.extents (length c.args.analysis.now.set.dates) c.requires.a;
  y = right_within c.args.primitive c.args.a c.args.b c.args.analysis.now.set.extents (length c.args.analysis.now.set.dates) c.requires.b;
})
