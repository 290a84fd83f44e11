-- Certificates within their length, and longer ones.
use Rattle.std.proofs.Common.{◌≡◌, ℕ, ◌<◌, ◌≤◌, List, length, true, false, arith, subst, Option, Result, codes}
use Rattle.std.specs.Prelude.{nat_lt}
use Rattle.std.proofs.lemmas.Bool.Decides.{nat_tests}
use Rattle.report_base.specs.declared.status.Status.{Status}
use Rattle.report_base.specs.declared.status.ReportFault.{ReportFault}
use Rattle.report_base.specs.Reports.{Report, Writes, passed}
use Rattle.crm_certify.specs.Lengths.{within_length}

is_longer : (n : ℕ) → 67108864 < n → nat_lt 67108864 n ≡ true
is_longer n lt = grind (arith, nat_tests)

is_within : (n : ℕ) → n ≤ 67108864 → nat_lt 67108864 n ≡ false
is_within n le = grind (arith, nat_tests)

module _ {S : Type 0} (written : S → Option (List ℕ)) (faults sure : S → ℕ) (a b : S) where
  -- the length is written in place of the text
  pub long_written : (r : Report) (n : ℕ) (x : Result Status ReportFault) → n ≡ length r.text → 67108864 < n → Writes written faults sure a b (passed (codes "L9") n) x
      → Writes written faults sure a b (within_length r) x
  long_written r n x same lt p =
      rw (is_longer (length r.text) (subst (λ (m : ℕ). 67108864 < m) same lt))
      (subst (λ (m : ℕ). Writes written faults sure a b (passed (codes "L9") m) x) same p)

  -- the text is written
  pub short_written : (r t : Report) (n : ℕ) (x : Result Status ReportFault) → n ≡ length r.text → n ≤ 67108864 → t ≡ r → Writes written faults sure a b t x
      → Writes written faults sure a b (within_length r) x
  short_written r t n x same le e p =
      rw (is_within (length r.text) (subst (λ (m : ℕ). m ≤ 67108864) same le)) (subst (λ (u : Report). Writes written faults sure a b u x) e p)
