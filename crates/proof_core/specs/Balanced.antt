-- Balanced proofs, and what joining from left to right concludes.
use Rattle.std.specs.Prelude.{zero, suc, ◌≡◌, ◌<◌, ◌+◌, ◌/◌, ℕ, max, Option, Some, None, List, [], ◌∷◌, length, take, drop}
use Rattle.proof_core.specs.declared.trees.Proof.{Proof}
use Rattle.proof_core.specs.declared.trees.Proof.TheVariants.{Leaf, One', Two'}
use Rattle.proof_core.specs.Proofs.{gives_two}

-- one leaf is itself; more are joined from the balanced first half, rounded down, and the balanced rest
abbrev pub IsBalanced : {L R J : Type 0} → J → List L → Proof L R J → Type 0
IsBalanced j ls (Leaf l) = ls ≡ l ∷ []
IsBalanced j ls (One' r p x) = ⊥
IsBalanced j ls (Two' k p x q y) =
    (1 < length ls) × (k ≡ j) × IsBalanced j (take (length ls / 2) ls) x × IsBalanced j (drop (length ls / 2) ls) y

-- the two ways of joining three facts give the same fact, or both give none
abbrev pub IsAssociative : {F : Type 0} → (F → F → Option F) → Type 0
IsAssociative two = (f g h : _) → gives_two two (two f g) (Some h) ≡ gives_two two (Some f) (two g h)

-- joining from left to right
abbrev pub joined_on : {F : Type 0} → (F → F → Option F) → Option F → List (Option F) → Option F
joined_on two o [] = o
joined_on two o (u ∷ us) = joined_on two (gives_two two o u) us

abbrev pub joined : {F : Type 0} → (F → F → Option F) → List (Option F) → Option F
joined two [] = None
joined two (o ∷ os) = joined_on two o os

-- the most nodes on a way from the root to a leaf
abbrev pub depth : {L R J : Type 0} → Proof L R J → ℕ
depth (Leaf l) = 1
depth (One' r p x) = depth x + 1
depth (Two' j p x q y) = max (depth x) (depth y) + 1

-- so many halvings, each rounded up, take n to 1
abbrev pub TakesToOne : ℕ → ℕ → Type 0
TakesToOne zero n = n ≡ 1
TakesToOne (suc halvings) n = (1 < n) × TakesToOne halvings ((n + 1) / 2)
