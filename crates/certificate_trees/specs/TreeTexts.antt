-- The texts of trees: `oN` for an order, `lN` for a kept fact, `w( )` and `j( , )` for the rules.
use Rattle.std.specs.Prelude.{ℕ, List, [], ◌∷◌, ◌++◌, ◌+◌, length, codes}
use Rattle.std.specs.Fmt.{decimal}
use Rattle.crm_classes.specs.Classes.{code_text}
use Rattle.proof_core.specs.declared.trees.Proof.{Proof}
use Rattle.proof_core.specs.declared.trees.Proof.TheVariants.{Leaf, One', Two'}
use Rattle.proof_core.specs.declared.trees.SharedLeaf.{SharedLeaf}
use Rattle.proof_core.specs.declared.trees.SharedLeaf.TheVariants.{Own, Earlier}
use Rattle.certificate_trees.specs.declared.leaves.ClassFact.{ClassFact}
use Rattle.certificate_trees.specs.declared.rules.Weaken.{Weaken}
use Rattle.certificate_trees.specs.declared.rules.Join.{Join}

abbrev pub order_leaf : ℕ → List ℕ
order_leaf n = codes "o" ++ decimal n

abbrev pub shared_leaf : SharedLeaf ℕ → List ℕ
shared_leaf (Own n) = order_leaf n
shared_leaf (Earlier n) = codes "l" ++ decimal n

-- the text of a tree over the texts of its leaves
abbrev pub tree_bytes : {L : Type 0} → (L → List ℕ) → Proof L Weaken Join → List ℕ
tree_bytes leaf (Leaf l) = leaf l
tree_bytes leaf (One' r p x) = codes "w(" ++ tree_bytes leaf x ++ codes ")"
tree_bytes leaf (Two' j p x q y) = codes "j(" ++ tree_bytes leaf x ++ codes "," ++ tree_bytes leaf y ++ codes ")"

abbrev pub cover_leaf : ℕ → List ℕ
cover_leaf n = codes "c" ++ decimal n

-- where the nodes of a tree begin that begins at a place, in post-order
abbrev pub node_places : {L : Type 0} → (L → List ℕ) → Proof L Weaken Join → ℕ → List ℕ
node_places leaf (Leaf l) at = at ∷ []
node_places leaf (One' r p x) at = node_places leaf x (at + 2) ++ at ∷ []
node_places leaf (Two' j p x q y) at =
    node_places leaf x (at + 2) ++ node_places leaf y (at + length (tree_bytes leaf x) + 3) ++ at ∷ []

-- two classes by their codes
abbrev pub class_leaf_text : ClassFact → List ℕ
class_leaf_text f = code_text f.low ++ (codes "." ++ code_text f.high)
