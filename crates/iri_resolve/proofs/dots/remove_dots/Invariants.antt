use Rattle.std.proofs.Common.{◌≡◌, ◌≤◌, length, take, drop}
use Rattle.iri_resolve.specs.Dots.{without_dots_from, without_dots}
use Rattle.iri_resolve.proofs.dots.remove_dots.Given as goal

abbrev pub invariant-loop-rest : goal.invariant-loop-rest
invariant-loop-rest l = (l.start ≤ length l.out.items) × (take l.start l.out.items ≡ l.fn.out.items)
    × (without_dots_from (length l.rest) l.rest (drop l.start l.out.items) ≡ without_dots l.path)

abbrev pub decreases-loop-rest : goal.decreases-loop-rest
decreases-loop-rest l = length l.rest
