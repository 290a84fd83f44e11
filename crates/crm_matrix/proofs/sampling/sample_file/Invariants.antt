use Rattle.std.proofs.Common.{◌≡◌}
use Rattle.crm_matrix.specs.Samples.{first_contexts}
use Rattle.crm_matrix.proofs.sampling.sample_file.Given as goal

abbrev pub invariant-loop-i : goal.invariant-loop-i
invariant-loop-i l = l.text.items ≡ first_contexts l.n l.i
