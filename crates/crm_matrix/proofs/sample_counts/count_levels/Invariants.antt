use Rattle.std.proofs.Common.{◌≡◌, take}
use Rattle.crm_matrix.specs.Samples.{count_levels}
use Rattle.crm_matrix.proofs.sample_counts.count_levels.Given as goal

abbrev pub invariant-loop-cell : goal.invariant-loop-cell
invariant-loop-cell l = l.count ≡ count_levels (take l.cell-index l.cells)
