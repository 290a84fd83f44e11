-- What a theory that keeps its law concludes is true.
use Rattle.std.proofs.Common.{◌≡◌, Option, Some, None, refl}
use Rattle.proof_core.specs.declared.trees.Proof.{Proof}
use Rattle.proof_core.specs.declared.trees.Proof.TheVariants.{Leaf, One', Two'}
use Rattle.proof_core.specs.Rules.{Rules, KeepsTruth}
use Rattle.proof_core.specs.Proofs.{conclusion, gives_one, gives_two}

pub one_given : {F : Type 0} (rule : F → Option F) (o : Option F) (h : F) → gives_one rule o ≡ Some h → (f : F) × ((o ≡ Some f) × (rule f ≡ Some h))
one_given rule None h e = absurd (cc e)
one_given rule (Some f) h e = (f, (refl, e))

pub two_given : {F : Type 0} (rule : F → F → Option F) (o u : Option F) (h : F) → gives_two rule o u ≡ Some h →
    (f : F) × ((g : F) × ((o ≡ Some f) × ((u ≡ Some g) × (rule f g ≡ Some h))))
two_given rule None u h e = absurd (cc e)
two_given rule (Some f) None h e = absurd (cc e)
two_given rule (Some f) (Some g) h e = (f, (g, (refl, (refl, e))))

pub concluded_is_true : {L R J F : Type 0} (t : Rules L R J F) (IsTrue : F → Type 0) → KeepsTruth t IsTrue →
    (x : Proof L R J) (f : F) → conclusion t x ≡ Some f → IsTrue f
concluded_is_true t IsTrue k (Leaf l) f e = k.leaf l f e
concluded_is_true t IsTrue k (One' r p x) f e =
    let given = one_given (t.one r) (conclusion t x) f e in
    k.one r given.0 f (concluded_is_true t IsTrue k x given.0 given.1.0) given.1.1
concluded_is_true t IsTrue k (Two' j p x q y) f e =
    let given = two_given (t.two j) (conclusion t x) (conclusion t y) f e in
    k.two j given.0 given.1.0 f (concluded_is_true t IsTrue k x given.0 given.1.1.0) (concluded_is_true t IsTrue k y given.1.0 given.1.1.1.0) given.1.1.1.1
