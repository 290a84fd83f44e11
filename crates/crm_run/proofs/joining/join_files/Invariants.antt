use Rattle.std.proofs.Common.{◌≡◌, ◌≤◌}
use Rattle.crm_run.proofs.Joins.{AreJoinedTo}
use Rattle.crm_run.proofs.joining.join_files.Given as goal

abbrev pub invariant-loop-k : goal.invariant-loop-k
invariant-loop-k g l = record {
  joined : AreJoinedTo l.base (g.S.Shelf.files l.fn.shelf) l.files l.k l.joining;
  later : g.S.Shelf.faults l.fn.shelf ≤ g.S.Shelf.faults l.shelf;
  files : g.S.Shelf.files l.shelf ≡ g.S.Shelf.files l.fn.shelf;
  honest : g.S.Shelf.honest l.shelf ≡ g.S.Shelf.honest l.fn.shelf;
}
