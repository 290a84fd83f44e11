use Rattle.std.proofs.Common.{◌≡◌, ◌++◌, take}
use Rattle.std.specs.List.{flat_map}
use Rattle.crm_matrix.specs.Samples.{before_text}
use Rattle.crm_matrix.proofs.sampling.append_all_before.Given as goal

abbrev pub invariant-loop-d : goal.invariant-loop-d
invariant-loop-d l = l.text.items ≡ l.fn.text.items ++ flat_map (before_text l.n l.i) (take l.d-index l.distances)
