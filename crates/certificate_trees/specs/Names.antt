-- The first name that names nothing.
use Rattle.std.specs.Prelude.{⊤, ◌≡◌, ◌⊎◌, ◌+◌, nat_le, cond, ℕ, Bool, true, Option, Some, None, List, length}
use Rattle.proof_core.specs.declared.trees.Proof.{Proof}
use Rattle.proof_core.specs.declared.trees.Proof.TheVariants.{Leaf, One', Two'}
use Rattle.proof_core.specs.declared.trees.SharedLeaf.{SharedLeaf}
use Rattle.proof_core.specs.declared.trees.SharedLeaf.TheVariants.{Own, Earlier}
use Rattle.certificate_trees.specs.declared.rules.Weaken.{Weaken}
use Rattle.certificate_trees.specs.declared.rules.Join.{Join}
use Rattle.certificate_trees.specs.LeafGrammar.{LeafKind, OfOrders, OfCovers, OfClasses}
use Rattle.certificate_trees.specs.TreeTexts.{tree_bytes}

-- the first of two places, if any
abbrev pub or_else : Option ℕ → Option ℕ → Option ℕ
or_else None b = b
or_else (Some a) b = Some a

-- where what names nothing stands
abbrev pub noted : Bool → ℕ → Option ℕ
noted bad at = cond bad (Some at) None

-- a name that stands at a place, of which so many name something
abbrev pub unknown_name : ℕ → ℕ → ℕ → Option ℕ
unknown_name limit n at = noted (nat_le limit n) at

-- the first leaf of a tree that begins at a place
abbrev pub unknown_leaf : {L : Type 0} → (L → List ℕ) → (L → Bool) → Proof L Weaken Join → ℕ → Option ℕ
unknown_leaf text bad (Leaf l) at = noted (bad l) at
unknown_leaf text bad (One' r p x) at = unknown_leaf text bad x (at + 2)
unknown_leaf text bad (Two' j p x q y) at =
    or_else (unknown_leaf text bad x (at + 2)) (unknown_leaf text bad y (at + length (tree_bytes text x) + 3))

-- `oN` of so many orders, `lN` of what is kept
abbrev pub bad_shared : ℕ → Option ℕ → SharedLeaf ℕ → Bool
bad_shared orders kept (Own n) = nat_le orders n
bad_shared orders None (Earlier n) = true
bad_shared orders (Some kept) (Earlier n) = nat_le kept n

abbrev pub bad_cover : ℕ → ℕ → Bool
bad_cover covers n = nat_le covers n

-- leaves that are read as they are spelled, whatever they name
abbrev pub IsFaithful : LeafKind → Type 0
IsFaithful (OfOrders kept) = ⊤
IsFaithful OfCovers = ⊤
IsFaithful OfClasses = ⊥

-- what is read is spelled so
abbrev pub IsSure : LeafKind → Option ℕ → Type 0
IsSure kind unknown = IsFaithful kind ⊎ (unknown ≡ None)
