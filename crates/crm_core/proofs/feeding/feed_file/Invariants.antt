use Rattle.std.proofs.Common.{◌≡◌, ◌+◌, ◌-◌, ◌≤◌}
use Rattle.crm_core.specs.Files.{IsFed}
use Rattle.crm_core.proofs.feeding.feed_file.Given as goal

abbrev pub invariant-take : goal.invariant-take
invariant-take g l = record {
  fed : IsFed (g.S.Shelf.left l.initial.shelf) (g.S.Shelf.left l.shelf) (g.R.Feeds.promised l.initial.reader) (g.R.Feeds.promised l.reader) l.taken;
  count : g.R.Feeds.count l.reader ≡ l.taken;
  later : g.S.Shelf.faults l.initial.shelf ≤ g.S.Shelf.faults l.shelf;
  files : g.S.Shelf.files l.shelf ≡ g.S.Shelf.files l.initial.shelf;
  honest : g.S.Shelf.honest l.shelf ≡ g.S.Shelf.honest l.initial.shelf;
  within : l.taken ≤ 67108865;
}

abbrev pub decreases-take : goal.decreases-take
decreases-take g l = 67108864 + 1 - l.taken
