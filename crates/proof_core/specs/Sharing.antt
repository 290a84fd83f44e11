-- The rules of a theory that also takes what it keeps as leaves.
use Rattle.std.specs.Prelude.{◌≡◌, ◌<◌, zero, suc, ℕ, Option, Some, List, [], ◌∷◌, length, All, slice_get, slice_index_or}
use Rattle.proof_core.specs.declared.trees.SharedLeaf.{SharedLeaf}
use Rattle.proof_core.specs.declared.trees.SharedLeaf.TheVariants.{Own, Earlier}
use Rattle.std.proofs.Common.{subst, arith}
use Rattle.proof_core.specs.Rules.{Rules, KeepsTruth}

abbrev pub shared_leaf : {L R J F : Type 0} → Rules L R J F → List F → SharedLeaf L → Option F
shared_leaf t kept (Own l) = t.leaf l
shared_leaf t kept (Earlier n) = slice_get kept n

abbrev pub shared_rules : {L R J F : Type 0} → Rules L R J F → List F → Rules (SharedLeaf L) R J F
shared_rules t kept = record { leaf = shared_leaf t kept; one = t.one; two = t.two }

read_within : {F : Type 0} (kept : List F) (n : ℕ) (f : F) → slice_get kept n ≡ Some f → (n < length kept) × (slice_index_or kept n f ≡ f)
read_within [] n f e = absurd (cc e)
read_within (x ∷ xs) zero f e = (omega arith, cc e)
read_within (x ∷ xs) (suc n) f e = let rest = read_within xs n f e in (omega (arith, rest.0), rest.1)

kept_is : {F : Type 0} (P : F → Type 0) (kept : List F) (n : ℕ) (f : F) → slice_get kept n ≡ Some f → All P kept → P f
kept_is P kept n f e all = let read = read_within kept n f e in subst P read.1 (all n f read.0)

pub shared_keeps : {L R J F : Type 0} (t : Rules L R J F) (P : F → Type 0) (kept : List F) → KeepsTruth t P →
    KeepsTruth (shared_rules t kept) (λ f. All P kept → P f)
shared_keeps t P kept k = record {
  leaf = leaf;
  one = λ r f g true_f e all. k.one r f g (true_f all) e;
  two = λ j f g h true_f true_g e all. k.two j f g h (true_f all) (true_g all) e;
}
  where
    leaf : (l : SharedLeaf _) (f : _) → shared_leaf t kept l ≡ Some f → All P kept → P f
    leaf (Own l) f e all = k.leaf l f e
    leaf (Earlier n) f e all = kept_is P kept n f e all
