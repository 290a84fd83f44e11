use Rattle.std.proofs.Common.{◌≡◌, Ok, take}
use Rattle.std.specs.Prelude.{map}
use Rattle.crm_legacy.specs.Legacies.{direction_iri}
use Rattle.crm_legacy.specs.Modern.{with_predicate, with_statements}
use Rattle.crm_legacy.proofs.moving.add_directions.Given as goal

abbrev pub invariant-loop-direction : goal.invariant-loop-direction
invariant-loop-direction l =
    with_statements l.old (map (λ d. with_predicate l.triple (direction_iri l.turned d)) (take l.direction-index l.directions)) l.fn.modern ≡ Ok l.modern
