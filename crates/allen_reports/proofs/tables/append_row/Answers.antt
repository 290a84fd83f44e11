use Rattle.std.proofs.Common.{arith}
use Rattle.allen_reports.proofs.tables.append_row.Goals as goal

pub append_pair-requires-clause-right : goal.append_pair-requires-clause-right
append_pair-requires-clause-right c = c.requires.within c.loop-b.b-index 0 (omega arith)
