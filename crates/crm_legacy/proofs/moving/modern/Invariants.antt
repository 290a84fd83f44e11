use Rattle.std.proofs.Common.{◌≡◌, Ok, take}
use Rattle.std.specs.Prelude.{flat_map}
use Rattle.crm_legacy.specs.Modern.{said, with_statements, no_records}
use Rattle.crm_legacy.proofs.moving.modern.Given as goal

abbrev pub invariant-loop-k : goal.invariant-loop-k
invariant-loop-k l = with_statements l.records.names (flat_map (said l.records.names) (take l.k l.records.triples)) no_records ≡ Ok l.modern
