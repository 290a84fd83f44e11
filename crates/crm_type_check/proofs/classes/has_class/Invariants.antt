use Rattle.std.proofs.Common.{◌≡◌, drop}
use Rattle.crm_type_check.specs.Index.{some_from, passes_test}
use Rattle.crm_type_check.proofs.classes.has_class.Given as goal

abbrev pub invariant-loop-number : goal.invariant-loop-number
invariant-loop-number l = some_from 0 l.set.marks (passes_test l.test) ≡ some_from l.number (drop l.number l.set.marks) (passes_test l.test)
