-- The limit of the length of a certificate.
use Rattle.std.specs.Prelude.{◌≡◌, ◌⊎◌, ℕ, List, length, nat_lt, if◌then◌else◌, codes, Option, Result}
use Rattle.report_base.specs.declared.status.Status.{Status}
use Rattle.report_base.specs.declared.status.Status.TheVariants.{Done, Refused}
use Rattle.report_base.specs.declared.status.ReportFault.{ReportFault}
use Rattle.report_base.specs.Reports.{Report, Writes, passed}

-- a certificate of more than 67,108,864 bytes is refused with its length
abbrev pub within_length : Report → Report
within_length r = if nat_lt 67108864 (length r.text) then passed (codes "L9") (length r.text) else r

-- some text is printed whole with the status `Done`, or it is refused
pub record IsCertificate (r : Report) : Type 0 where
  pub status : (r.status ≡ Done) ⊎ (r.status ≡ Refused)

module _ {S : Type 0} (written : S → Option (List ℕ)) (faults sure : S → ℕ) (old new : S) where
  abbrev pub WritesSome : Result Status ReportFault → Type 0
  WritesSome result = (r : Report) × (IsCertificate r × Writes written faults sure old new r result)
