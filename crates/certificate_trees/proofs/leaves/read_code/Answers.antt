use Rattle.std.proofs.Common.{arith, ◌≡◌, ◌⊎◌, inl, inr, None, Some}
use Rattle.std.specs.Prelude.{slice_get}
use Rattle.certificate_trees.specs.declared.refusals.CertRefusal.{CertRefusal}
use Rattle.certificate_trees.specs.Beginnings.{IsRefused}
use Rattle.certificate_trees.specs.LeafGrammar.{Code}
use Rattle.certificate_trees.proofs.Codes.{code_read}
use Rattle.certificate_trees.proofs.WordReads.{handed_on}
use Rattle.certificate_trees.proofs.LeafReads.{code_none, code_whole, code_refused}
use Rattle.certificate_trees.proofs.leaves.read_code.Goals.{else-not-stands_at-via-then-not-stands_at+else-not-stands_at-2, else-not-stands_at-via-else-not-stands_at}
use Rattle.certificate_trees.proofs.leaves.read_code.Goals as goal

pub returns-clause-read : goal.returns-clause-read
returns-clause-read c = code_read c.args.text.now c.args.at c.in_ok-found.found.to c.class_of_bytes.result (omega (arith, c.in_ok-found.ensures.moves)) (c.in_ok-found.ensures.read.within) c.class_of_bytes.ensures

pub returns-then-not-stands_at-2-clause-refused : goal.returns-then-not-stands_at-2-clause-refused
returns-then-not-stands_at-2-clause-refused c = code_none c.args.text.now c.args.at c.requires
    (λ e. absurd (cc (c.stands_at.ensures.stands.1 e, c.if-not-stands_at.true)))
    (λ e. absurd (cc (c.stands_at-then-not-stands_at.ensures.stands.1 e, c.if-not-stands_at-2.true)))

pub returns-in_err-found-clause-refused : goal.returns-in_err-found-clause-refused
returns-in_err-found-clause-refused c =
    let P : CertRefusal → Type 0 = IsRefused Code None c.args.text.now c.args.at in
    let letter : (slice_get c.args.text.now c.args.at ≡ Some 69) ⊎ (slice_get c.args.text.now c.args.at ≡ Some 65) = elim c.else-not-stands_at.branch [
      | else-not-stands_at-via-then-not-stands_at+else-not-stands_at-2 w ↦ inr (w.stands_at-then-not-stands_at.ensures.stands.0 (cc))
      | else-not-stands_at-via-else-not-stands_at w ↦ inl (c.stands_at.ensures.stands.0 (cc))
    ] in
    handed_on c.from_residual.result c.in_err-found.field-0.0 P c.from_residual.ensures.1
    (code_refused c.args.text.now c.args.at letter c.in_err-found.field-0.0 c.in_err-found.ensures.refused)

pub returns-clause-whole : goal.returns-clause-whole
returns-clause-whole c =
    let letter : (slice_get c.args.text.now c.args.at ≡ Some 69) ⊎ (slice_get c.args.text.now c.args.at ≡ Some 65) = elim c.else-not-stands_at.branch [
      | else-not-stands_at-via-then-not-stands_at+else-not-stands_at-2 w ↦ inr (w.stands_at-then-not-stands_at.ensures.stands.0 (cc))
      | else-not-stands_at-via-else-not-stands_at w ↦ inl (c.stands_at.ensures.stands.0 (cc))
    ] in
    code_whole c.args.text.now c.args.at c.in_ok-found.found.to letter c.in_ok-found.ensures.whole
