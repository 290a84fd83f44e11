use Rattle.std.proofs.Common.{◌≡◌, ◌-◌, ◌≤◌, vec_len}
use Rattle.std.specs.Io.KnownBytes.{Consumes}
use Rattle.crm_outside.proofs.taking.read_all.Given as goal

abbrev pub invariant-take : goal.invariant-take
invariant-take g l = record {
  taken : Consumes (g.S.Shelf.left l.initial.shelf) (g.S.Shelf.left l.shelf) l.taken.items;
  later : g.S.Shelf.faults l.initial.shelf ≤ g.S.Shelf.faults l.shelf;
  files : g.S.Shelf.files l.shelf ≡ g.S.Shelf.files l.initial.shelf;
  honest : g.S.Shelf.honest l.shelf ≡ g.S.Shelf.honest l.initial.shelf;
  within : vec_len l.taken ≤ 67108865;
}

abbrev pub decreases-take : goal.decreases-take
decreases-take g l = 67108865 - vec_len l.taken
