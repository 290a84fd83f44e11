-- The limits of a dossier, and what is told of them.
use Rattle.std.proofs.Common.{◌≡◌, ℕ, ◌≤◌, ◌<◌, Bool, List, length, refl, subst, arith, true, false, Option, Result, Err}
use Rattle.std.specs.Prelude.{nat_lt, if◌then◌else◌, codes}
use Rattle.std.proofs.lemmas.Bool.Decides.{nat_tests}
use Rattle.crm_outside.proofs.PrintedTexts.{starved}
use Rattle.boundary_orders.specs.Dossiers.{Findings, AreFew}
use Rattle.report_base.specs.declared.status.Status.{Status}
use Rattle.report_base.specs.declared.status.Status.TheVariants.{Refused}
use Rattle.report_base.specs.declared.status.ReportFault.{ReportFault}
use Rattle.report_base.specs.declared.status.ReportFault.TheVariants.{Memory}
use Rattle.report_base.specs.Reports.{Report, Writes, passed, within_limits}

not_passed : (limit n : ℕ) → n ≤ limit → nat_lt limit n ≡ false
not_passed limit n le = grind (arith, nat_tests)

is_passed : (limit n : ℕ) → limit < n → nat_lt limit n ≡ true
is_passed limit n lt = grind (arith, nat_tests)

pub within : (found : Findings) (r : Report) → AreFew found → within_limits found r ≡ r
within found r few = rw (not_passed 2048 _ few.extents, not_passed 2048 _ few.dates, not_passed 65536 _ few.orders) refl

at_most : (limit n : ℕ) → nat_lt limit n ≡ false → n ≤ limit
at_most limit n e = grind (arith, nat_tests)

not_passed_by : (b : Bool) (code : List ℕ) (n : ℕ) (r : Report) (s : Status) → (Refused ≡ s → ⊥) → (if b then passed code n else r).status ≡ s → (b ≡ false) × (r.status ≡ s)
not_passed_by true code n r s other e = absurd (other e)
not_passed_by false code n r s other e = (refl, e)

-- a report that is no refusal is one of few extents, dates and orders
pub few_of : (found : Findings) (r : Report) (s : Status) → (Refused ≡ s → ⊥) → (within_limits found r).status ≡ s → AreFew found × (r.status ≡ s)
few_of found r s other e =
    let third : Report = if nat_lt 65536 (length found.orders.list) then passed (codes "L8") (length found.orders.list) else r in
    let second : Report = if nat_lt 2048 (length found.orders.dates) then passed (codes "L7") (length found.orders.dates) else third in
    let a = not_passed_by (nat_lt 2048 (length found.extents)) (codes "L6") (length found.extents) second s other e in
    let b = not_passed_by (nat_lt 2048 (length found.orders.dates)) (codes "L7") (length found.orders.dates) third s other a.1 in
    let c = not_passed_by (nat_lt 65536 (length found.orders.list)) (codes "L8") (length found.orders.list) r s other b.1 in
    (record { extents = at_most 2048 (length found.extents) a.0; dates = at_most 2048 (length found.orders.dates) b.0; orders = at_most 65536 (length found.orders.list) c.0 }, c.1)

module _ {S : Type 0} (written : S → Option (List ℕ)) (faults sure : S → ℕ) (a b : S) where
  -- a report within the limits is written
  pub few_written : (found : Findings) (r : Report) (x : Result Status ReportFault) → AreFew found → Writes written faults sure a b r x → Writes written faults sure a b (within_limits found r) x
  few_written found r x few p = rw (within found r few) p

  -- the first limit that was passed is written
  pub extents_passed : (found : Findings) (r : Report) (n : ℕ) (x : Result Status ReportFault) → n ≡ length found.extents → 2048 < n
      → Writes written faults sure a b (passed (codes "L6") n) x → Writes written faults sure a b (within_limits found r) x
  extents_passed found r n x same lt p = rw (is_passed 2048 _ (subst (λ (m : ℕ). 2048 < m) same lt), ← same) p

  pub dates_passed : (found : Findings) (r : Report) (n : ℕ) (x : Result Status ReportFault) → length found.extents ≤ 2048 → n ≡ length found.orders.dates → 2048 < n
      → Writes written faults sure a b (passed (codes "L7") n) x → Writes written faults sure a b (within_limits found r) x
  dates_passed found r n x few same lt p = rw (not_passed 2048 _ few, is_passed 2048 _ (subst (λ (m : ℕ). 2048 < m) same lt), ← same) p

  pub orders_passed : (found : Findings) (r : Report) (n : ℕ) (x : Result Status ReportFault) → length found.extents ≤ 2048 → length found.orders.dates ≤ 2048
      → n ≡ length found.orders.list → 65536 < n → Writes written faults sure a b (passed (codes "L8") n) x → Writes written faults sure a b (within_limits found r) x
  orders_passed found r n x few dates same lt p = rw (not_passed 2048 _ few, not_passed 2048 _ dates, is_passed 65536 _ (subst (λ (m : ℕ). 65536 < m) same lt), ← same) p

module _ {S : Type 0} (written : S → Option (List ℕ)) (faults sure : S → ℕ) (a : S) where
  -- memory was wanting before anything was written
  pub starved_written : (r : Report) → Writes written faults sure a a r (Err Memory)
  starved_written r = record { status = tt; ok = tt; err = starved written faults sure a r.text }
