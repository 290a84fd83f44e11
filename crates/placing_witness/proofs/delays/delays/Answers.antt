use Rattle.std.proofs.Common.{rules, ◌∙◌, length, ap}
use Rattle.std.proofs.lemmas.Int.{to_z-of_z}
use mir.Syntax.{w128}
use Rattle.order_laws.specs.Tables.{floor_instant}
use Rattle.order_closure.specs.Closures.{between}
use Rattle.placing_witness.proofs.Sharing.{apart_is, level_is}
use Rattle.placing_witness.proofs.delays.delays.Goals as goal

pub returns-clause-delay : goal.returns-clause-delay
returns-clause-delay c =
    record {
      floor = c.delay-floor.ensures.value;
      instant = to_z-of_z w128 c.instant.result (search rules) ∙ c.instant.ensures ∙ ap (floor_instant c.args.dates.now) c.delay-floor.ensures.value;
      rank = c.count_apart.ensures.value
          ∙ apart_is (between c.args.closure.now) (length c.args.dates.now) c.args.points.now c.args.x c.args.row.now c.args.floors.now c.delay-floor.result c.requires.row c.requires.floors c.delay-floor.ensures.value;
      above = c.count_level.ensures.value
          ∙ level_is (between c.args.closure.now) (length c.args.dates.now) c.args.points.now c.args.x c.args.row.now c.requires.row;
    }
