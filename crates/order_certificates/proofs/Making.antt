-- A text that is made piece by piece: counted, and printed.
use Rattle.std.proofs.Common.{◌≡◌, refl, ℕ, ◌+◌, List, [], ◌++◌, length, sym, ap, ◌∙◌, arith, subst, length-append, append-nil, append_assoc}
use Rattle.std.specs.Prelude.{Option}
use Rattle.crm_outside.specs.declared.printing.PrintFault.{PrintFault}
use Rattle.crm_outside.specs.declared.printing.PrintFault.TheVariants.{Memory}
use Rattle.crm_outside.specs.Printing.{Printed, Broken}
use Rattle.crm_outside.proofs.PrintedTexts.{printed_nothing, printed_then, broken_later, broken_front, broken_memory}

-- one more piece is counted
pub counted_on : (count sum : ℕ) (piece rest old whole : List ℕ) → piece ++ rest ≡ old → count + length old ≡ length whole → sum ≡ count + length piece
    → sum + length rest ≡ length whole
counted_on count sum piece rest old whole e c s =
    let e1 : length (piece ++ rest) ≡ length old = ap length e in
    omega (arith, e1, length-append piece rest, c, s)

pub counted_all : (sum : ℕ) (rest whole : List ℕ) → rest ≡ [] → sum + length rest ≡ length whole → sum ≡ length whole
counted_all sum rest whole e c = let e1 : length rest ≡ 0 = ap length e in omega (arith, e1, c)

module _ {S : Type 0} (written : S → Option (List ℕ)) (faults sure : S → ℕ) where
  -- all of a text but what is left is printed
  abbrev pub HasPrinted : S → S → List ℕ → List ℕ → Type 0
  HasPrinted a b rest whole = (t : List ℕ) × (Printed written faults sure a b t × (t ++ rest ≡ whole))

  pub none_printed : (a : S) (whole : List ℕ) → HasPrinted a a whole whole
  none_printed a whole = ([], (printed_nothing written faults sure a, refl))

  pub next_printed : (a b c : S) (piece rest old whole : List ℕ) → HasPrinted a b old whole → Printed written faults sure b c piece → piece ++ rest ≡ old
      → HasPrinted a c rest whole
  next_printed a b c piece rest old whole h p e =
      (h.0 ++ piece, (printed_then written faults sure a b c h.0 piece h.1.0 p, append_assoc h.0 piece rest ∙ ap (λ (u : List ℕ). h.0 ++ u) e ∙ h.1.1))

  pub last_printed : (a b c : S) (piece rest old whole : List ℕ) → HasPrinted a b old whole → Printed written faults sure b c piece → piece ++ rest ≡ old
      → rest ≡ [] → Printed written faults sure a c whole
  last_printed a b c piece rest old whole h p e none =
      let all = next_printed a b c piece rest old whole h p e in
      subst (Printed written faults sure a c) (sym (append-nil all.0) ∙ ap (λ (u : List ℕ). all.0 ++ u) (sym none) ∙ all.1.1) all.1.0

  pub broke_printed : (a b c : S) (piece rest old whole : List ℕ) (f : PrintFault) → HasPrinted a b old whole → Broken written faults sure b c piece f → piece ++ rest ≡ old
      → Broken written faults sure a c whole f
  broke_printed a b c piece rest old whole f h p e =
      subst (λ (u : List ℕ). Broken written faults sure a c u f) (ap (λ (u : List ℕ). h.0 ++ u) e ∙ h.1.1)
      (broken_later written faults sure a b c h.0 (piece ++ rest) f h.1.0 (broken_front written faults sure b c piece rest f p))

  pub starved_printed : (a b : S) (old whole : List ℕ) → HasPrinted a b old whole → Broken written faults sure a b whole Memory
  starved_printed a b old whole h =
      subst (λ (u : List ℕ). Broken written faults sure a b u Memory) h.1.1 (broken_memory written faults sure a b h.0 old h.1.0)
