use Rattle.archive_join.proofs.Adding.{IsAdded}
use Rattle.archive_join.proofs.joining.add_records.Given as goal

abbrev pub invariant-loop-k : goal.invariant-loop-k
invariant-loop-k l = IsAdded l.shift.blanks l.shift.bytes l.file l.initial.records l.records l.table l.k l.blanks
