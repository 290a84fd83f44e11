-- What a proof object concludes, and its first bad node.
use Rattle.std.specs.Prelude.{◌≡◌, ◌≢◌, ◌<◌, ◌+◌, ℕ, Option, Some, None, List, [], ◌∷◌, ◌++◌, length, slice_index_or, map}
use Rattle.proof_core.specs.declared.trees.Proof.{Proof}
use Rattle.proof_core.specs.declared.trees.Proof.TheVariants.{Leaf, One', Two'}
use Rattle.proof_core.specs.Rules.{Rules}

abbrev pub gives_one : {F : Type 0} → (F → Option F) → Option F → Option F
gives_one rule None = None
gives_one rule (Some f) = rule f

abbrev pub gives_two : {F : Type 0} → (F → F → Option F) → Option F → Option F → Option F
gives_two rule None g = None
gives_two rule (Some f) None = None
gives_two rule (Some f) (Some g) = rule f g

-- the conclusion, if each rule fits: a leaf by the leaf rule, a node by its rule on the conclusions of its parts
abbrev pub conclusion : {L R J F : Type 0} → Rules L R J F → Proof L R J → Option F
conclusion t (Leaf l) = t.leaf l
conclusion t (One' r p x) = gives_one (t.one r) (conclusion t x)
conclusion t (Two' j p x q y) = gives_two (t.two j) (conclusion t x) (conclusion t y)

abbrev pub Concludes : {L R J F : Type 0} → Rules L R J F → Proof L R J → F → Type 0
Concludes t x f = conclusion t x ≡ Some f

-- the proof of each node, in post-order
abbrev pub nodes : {L R J : Type 0} → Proof L R J → List (Proof L R J)
nodes (Leaf l) = Leaf l ∷ []
nodes (One' r p x) = nodes x ++ (One' r p x) ∷ []
nodes (Two' j p x q y) = nodes x ++ nodes y ++ (Two' j p x q y) ∷ []

-- how many nodes there are
abbrev pub node_count : {L R J : Type 0} → Proof L R J → ℕ
node_count (Leaf l) = 1
node_count (One' r p x) = node_count x + 1
node_count (Two' j p x q y) = node_count x + node_count y + 1

-- what the nodes conclude, in post-order
abbrev pub conclusions : {L R J F : Type 0} → Rules L R J F → Proof L R J → List (Option F)
conclusions t x = map (conclusion t) (nodes x)

-- the first item that is none
pub record IsFirstNone {F : Type 0} (os : List (Option F)) (n : ℕ) : Type 0 where
  pub within : n < length os
  pub bad : slice_index_or os n None ≡ None
  pub first : (i : ℕ) → i < n → slice_index_or os i None ≢ None

-- the first node in post-order whose rule gives nothing
abbrev pub IsFirstBad : {L R J F : Type 0} → Rules L R J F → Proof L R J → ℕ → Type 0
IsFirstBad t x n = IsFirstNone (conclusions t x) n

-- how many nodes come before the first bad one; all, where none is bad
abbrev pub passed : {F : Type 0} → Option F → ℕ → ℕ
passed None n = 0
passed (Some f) n = n

abbrev pub good_nodes : {L R J F : Type 0} → Rules L R J F → Proof L R J → ℕ
good_nodes t (Leaf l) = passed (t.leaf l) 1
good_nodes t (One' r p x) = good_nodes t x + passed (conclusion t (One' r p x)) 1
good_nodes t (Two' j p x q y) =
    good_nodes t x + passed (conclusion t x) (good_nodes t y) + passed (conclusion t (Two' j p x q y)) 1
