use Rattle.std.proofs.Common.{◌≡◌, take}
use Rattle.std.specs.List.{filter_map}
use Rattle.triple_pool.specs.Pool.{number_from}
use Rattle.crm_certify.specs.Types.{type_row}
use Rattle.crm_certify.proofs.types.type_rows.Given as goal

abbrev pub invariant-loop-number : goal.invariant-loop-number
invariant-loop-number l = l.rows ≡ filter_map (type_row l.records.names) (number_from 0 (take l.number l.records.triples))
