-- The nodes before the first bad one are no more than all, and all where none is bad.
use Rattle.std.proofs.Common.{arith, ◌<◌, ◌≤◌, ℕ, Option, Some, None}
use Rattle.proof_core.specs.declared.trees.Proof.{Proof}
use Rattle.proof_core.specs.declared.trees.Proof.TheVariants.{Leaf, One', Two'}
use Rattle.proof_core.specs.Rules.{Rules}
use Rattle.proof_core.specs.Proofs.{conclusion, node_count, passed, good_nodes}

pub passed_at_most : {F : Type 0} (o : Option F) (n : ℕ) → passed o n ≤ n
passed_at_most None n = omega arith
passed_at_most (Some f) n = omega arith

pub good_at_most : {L R J F : Type 0} (t : Rules L R J F) (x : Proof L R J) → good_nodes t x ≤ node_count x
good_at_most t (Leaf l) = passed_at_most (t.leaf l) 1
good_at_most t (One' r p x) = omega (arith, good_at_most t x, passed_at_most (conclusion t (One' r p x)) 1)
good_at_most t (Two' j p x q y) =
    omega (arith, good_at_most t x, good_at_most t y, passed_at_most (conclusion t x) (good_nodes t y), passed_at_most (conclusion t (Two' j p x q y)) 1)

pub node_count_positive : {L R J : Type 0} (x : Proof L R J) → 0 < node_count x
node_count_positive (Leaf l) = omega arith
node_count_positive (One' r p x) = omega arith
node_count_positive (Two' j p x q y) = omega arith
