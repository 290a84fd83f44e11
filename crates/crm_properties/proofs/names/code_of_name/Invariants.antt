use Rattle.std.proofs.Common.{◌≡◌, ◌<◌, ℕ, get_or, nat_eq, false}
use Rattle.crm_properties.proofs.names.code_of_name.Given as goal

abbrev pub invariant-loop-i : goal.invariant-loop-i
invariant-loop-i l = (k : ℕ) → k < l.i → nat_eq (get_or l.text k 0) 95 ≡ false
