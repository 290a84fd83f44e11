-- Texts of items that are printed one after another, in a loop over the items.
use Rattle.std.proofs.Common.{◌≡◌, ℕ, ◌+◌, List, [], ◌∷◌, ◌++◌, take, drop, refl, sym, ◌∙◌, ap, append-nil, Some, slice_get}
use Rattle.std.specs.Prelude.{Option}
use Rattle.std.specs.List.{flat_map}
use Rattle.std.proofs.lemmas.List.{take-append-drop}
use Rattle.std.proofs.lemmas.Grind.{flat_map-append}
use Rattle.crm_outside.specs.declared.printing.PrintFault.{PrintFault}
use Rattle.crm_outside.specs.Printing.{Printed, Broken}
use Rattle.crm_outside.proofs.Lists.{take_one, drop_one}
use Rattle.crm_outside.proofs.PrintedTexts.{printed_nothing, printed_then, broken_later, broken_front}

module _ {X S : Type 0} (text : X → List ℕ) (xs : List X) (written : S → Option (List ℕ)) (faults sure : S → ℕ) where
  -- before the first text
  pub no_part : (a : S) → Printed written faults sure a a (flat_map text (take 0 xs))
  no_part a = printed_nothing written faults sure a

  module _ (k : ℕ) (x : X) (here : Some x ≡ slice_get xs k) where
    parts_one : flat_map text (take (k + 1) xs) ≡ flat_map text (take k xs) ++ text x
    parts_one =
        rw (take_one xs k x here, flat_map-append text (take k xs) (x ∷ []))
        (ap (λ t. flat_map text (take k xs) ++ t) (append-nil (text x)))

    parts_whole : flat_map text (take k xs) ++ (text x ++ flat_map text (drop (k + 1) xs)) ≡ flat_map text xs
    parts_whole =
        let rest : flat_map text (drop k xs) ≡ text x ++ flat_map text (drop (k + 1) xs) = rw (drop_one xs k x here) refl in
        ap (λ t. flat_map text (take k xs) ++ t) (sym rest) ∙ sym (flat_map-append text (take k xs) (drop k xs)) ∙ ap (flat_map text) (take-append-drop k xs)

    -- the text of the next item is printed
    pub next_part : (a b c : S) → Printed written faults sure a b (flat_map text (take k xs)) → Printed written faults sure b c (text x)
        → Printed written faults sure a c (flat_map text (take (k + 1) xs))
    next_part a b c p q = rw parts_one (printed_then written faults sure a b c _ _ p q)

    -- the text of the next item breaks off
    pub broken_part : (a b c : S) (e : PrintFault) → Printed written faults sure a b (flat_map text (take k xs)) → Broken written faults sure b c (text x) e
        → Broken written faults sure a c (flat_map text xs) e
    broken_part a b c e p q = rw (← parts_whole) (broken_later written faults sure a b c _ _ e p (broken_front written faults sure b c _ _ e q))
