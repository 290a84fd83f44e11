-- A count before or behind lines.
use Rattle.std.proofs.Common.{◌≡◌, ℕ, List, ◌++◌, Result, subst}
use Rattle.std.specs.Prelude.{Option}
use Rattle.crm_outside.specs.declared.printing.PrintFault.{PrintFault}
use Rattle.crm_outside.specs.Printing.{Printed, Broken, Prints}
use Rattle.crm_outside.proofs.PrintedTexts.{broken_front, broken_later, prints_then}
use Rattle.order_texts.specs.Texts.{count_line}

module _ {S : Type 0} (written : S → Option (List ℕ)) (faults sure : S → ℕ) (word rest : List ℕ) (n m : ℕ) (same : n ≡ m) where
  -- the count breaks off
  pub broken_count : (a b : S) (e : PrintFault) → Broken written faults sure a b (count_line word n) e
      → Broken written faults sure a b (count_line word m ++ rest) e
  broken_count a b e p =
      broken_front written faults sure a b (count_line word m) rest e (subst (λ (k : ℕ). Broken written faults sure a b (count_line word k) e) same p)

  -- what is behind the count breaks off
  pub broken_rest : (a b c : S) (e : PrintFault) → Printed written faults sure a b (count_line word n)
      → Broken written faults sure b c rest e → Broken written faults sure a c (count_line word m ++ rest) e
  broken_rest a b c e p q =
      broken_later written faults sure a b c (count_line word m) rest e (subst (λ (k : ℕ). Printed written faults sure a b (count_line word k)) same p) q

  -- the count is printed, and then the lines
  pub counted_lines : {T : Type 0} (a b c : S) (r : Result T PrintFault) → Printed written faults sure a b (count_line word n)
      → Prints written faults sure b c rest r → Prints written faults sure a c (count_line word m ++ rest) r
  counted_lines a b c r p q =
      prints_then written faults sure a b c (count_line word m) rest r (subst (λ (k : ℕ). Printed written faults sure a b (count_line word k)) same p) q

module _ {S : Type 0} (written : S → Option (List ℕ)) (faults sure : S → ℕ) (word : List ℕ) (n m : ℕ) (same : n ≡ m) where
  -- a count ends the text
  pub count_last : {T : Type 0} (a b : S) (r : Result T PrintFault) → Prints written faults sure a b (count_line word n) r → Prints written faults sure a b (count_line word m) r
  count_last a b r p = subst (λ (k : ℕ). Prints written faults sure a b (count_line word k) r) same p
