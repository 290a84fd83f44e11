-- Why a proof is not kept: it has a bad node, or it concludes a fact for which there is no memory.
use Rattle.proof_core.specs.declared.trees.Proof.{Proof}
use Rattle.proof_core.specs.declared.sharing.KeepFault.{KeepFault}
use Rattle.proof_core.specs.declared.sharing.KeepFault.TheVariants.{Bad, Memory}
use Rattle.proof_core.specs.Rules.{Rules}
use Rattle.proof_core.specs.Proofs.{Concludes, IsFirstBad}

abbrev pub IsRefused : {L R J F : Type 0} → Rules L R J F → Proof L R J → KeepFault → Type 0
IsRefused t x (Bad b) = IsFirstBad t x b.node
IsRefused {F = F} t x Memory = (f : F) × Concludes t x f
