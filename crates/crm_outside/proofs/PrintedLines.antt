-- Lines that are printed one after another, in a loop over the items that they tell of.
use Rattle.std.proofs.Common.{◌≡◌, ℕ, ◌+◌, List, [], ◌∷◌, ◌++◌, take, drop, length, refl, ap, sym, ◌∙◌, arith, append-nil, append_assoc, Some, slice_get, suc}
use Rattle.std.specs.Prelude.{Option}
use Rattle.std.proofs.lemmas.List.{take-append-drop}
use Rattle.crm_outside.specs.declared.printing.PrintFault.{PrintFault}
use Rattle.crm_outside.specs.declared.printing.PrintFault.TheVariants.{Memory}
use Rattle.crm_outside.specs.Printing.{Printed, Broken, lines_from}
use Rattle.crm_outside.proofs.Lists.{take_one, drop_one, front_length}
use Rattle.crm_outside.proofs.PrintedTexts.{printed_nothing, printed_then, broken_later, broken_front, broken_memory}

lines_append : {X : Type 0} (line : ℕ → X → List ℕ) (j : ℕ) (xs ys : List X) → lines_from line j (xs ++ ys) ≡ lines_from line j xs ++ lines_from line (j + length xs) ys
unfolding lines_from
lines_append line j [] ys = let e : j + 0 ≡ j = omega arith in rw e refl
lines_append line j (x ∷ xs) ys =
    let e : j + suc (length xs) ≡ j + 1 + length xs = omega arith in
    rw e (ap (λ l. line j x ++ l) (lines_append line (j + 1) xs ys) ∙ sym (append_assoc (line j x) _ _))

module _ {X S : Type 0} (line : ℕ → X → List ℕ) (xs : List X) (written : S → Option (List ℕ)) (faults sure : S → ℕ) where
  -- before the first line
  pub no_line : (a : S) → Printed written faults sure a a (lines_from line 0 (take 0 xs))
  unfolding lines_from
  no_line a = printed_nothing written faults sure a

  module _ (k : ℕ) (x : X) (here : Some x ≡ slice_get xs k) where
    lines_one : lines_from line 0 (take (k + 1) xs) ≡ lines_from line 0 (take k xs) ++ line k x
    unfolding lines_from
    lines_one =
        let e : 0 + length (take k xs) ≡ k = omega (arith, front_length xs k x here) in
        rw (take_one xs k x here, lines_append line 0 (take k xs) (x ∷ []), e) (ap (λ l. lines_from line 0 (take k xs) ++ l) (append-nil (line k x)))

    lines_whole : lines_from line 0 (take k xs) ++ (line k x ++ lines_from line (k + 1) (drop (k + 1) xs)) ≡ lines_from line 0 xs
    unfolding lines_from
    lines_whole =
        let e : 0 + length (take k xs) ≡ k = omega (arith, front_length xs k x here) in
        let rest : lines_from line k (drop k xs) ≡ line k x ++ lines_from line (k + 1) (drop (k + 1) xs) = rw (drop_one xs k x here) refl in
        let whole : lines_from line 0 (take k xs ++ drop k xs) ≡ lines_from line 0 (take k xs) ++ lines_from line (0 + length (take k xs)) (drop k xs) = lines_append line 0 (take k xs) (drop k xs) in
        ap (λ l. lines_from line 0 (take k xs) ++ l) (sym rest) ∙ sym (ap (λ (n : ℕ). lines_from line 0 (take k xs) ++ lines_from line n (drop k xs)) e) ∙ sym whole ∙ ap (lines_from line 0) (take-append-drop k xs)

    -- the line of the next item is printed
    pub next_line : (a b c : S) → Printed written faults sure a b (lines_from line 0 (take k xs)) → Printed written faults sure b c (line k x)
        → Printed written faults sure a c (lines_from line 0 (take (k + 1) xs))
    next_line a b c p q = rw lines_one (printed_then written faults sure a b c _ _ p q)

    -- the line of the next item breaks off
    pub broken_line : (a b c : S) (e : PrintFault) → Printed written faults sure a b (lines_from line 0 (take k xs)) → Broken written faults sure b c (line k x) e
        → Broken written faults sure a c (lines_from line 0 xs) e
    broken_line a b c e p q = rw (← lines_whole) (broken_later written faults sure a b c _ _ e p (broken_front written faults sure b c _ _ e q))

    -- there is no memory for the line of the next item
    pub starved_line : (a b : S) → Printed written faults sure a b (lines_from line 0 (take k xs)) → Broken written faults sure a b (lines_from line 0 xs) Memory
    starved_line a b p = rw (← lines_whole) (broken_memory written faults sure a b _ _ p)
