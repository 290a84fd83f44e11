use Rattle.crm_type_check.specs.Index.{set_in, parts_at, IsIndex}
use Rattle.crm_type_check.proofs.index.index_of.Given as goal

abbrev pub invariant-loop-triple : goal.invariant-loop-triple
invariant-loop-triple l = IsIndex l.names l.yielded (set_in l.index.classes) (parts_at l.index.relations)
