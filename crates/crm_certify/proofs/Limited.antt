-- What is written of records past a limit, within the limits, and where memory is wanting before the first byte.
use Rattle.std.proofs.Common.{◌≡◌, refl, ℕ, List, [], Option, Some, None, Result, Err, inl, inr, subst, codes}
use Rattle.rdf_terms.specs.declared.triples.Records.{Records}
use Rattle.boundary_orders.specs.declared.faults.BuildFault.{BuildFault}
use Rattle.boundary_orders.specs.Dossiers.{Findings, AreFew, IsPassed}
use Rattle.order_analysis.specs.Subjects.{cycle_of}
use Rattle.reason_report.specs.Reason.{inconsistent_text}
use Rattle.report_base.specs.declared.status.Status.{Status}
use Rattle.report_base.specs.declared.status.Status.TheVariants.{Done, Findings as HasFindings}
use Rattle.report_base.specs.declared.status.ReportFault.{ReportFault}
use Rattle.report_base.specs.declared.status.ReportFault.TheVariants.{Memory}
use Rattle.report_base.specs.Reports.{Report, Writes, within_limits, findings_from}
use Rattle.report_base.proofs.Limits.{few_written, starved_written}
use Rattle.certificate_trees.specs.declared.refusals.CertRefusal.TheVariants.{K3}
use Rattle.crm_certify.specs.Lengths.{WritesSome}
use Rattle.crm_certify.specs.Certificates.{IsMatrixReport, WritesMatrix, WritesMatrixOf, orders_certificate, orders_report}
use Rattle.crm_certify.specs.Verdicts.{IsJudgement, WritesJudged, WritesVerdict, refused_at}

some_matrix : (found : Option (List ℕ)) → (m : Report) × IsMatrixReport found m
some_matrix None = (record { status = Done; text = [] }, record { status = inl refl })
some_matrix (Some cycle) = (record { status = HasFindings; text = inconsistent_text cycle }, refl)

-- K3 says nothing of the text alone
some_judgement : (r : Records) (cert : List ℕ) → (j : Report) × IsJudgement r cert j
some_judgement r cert = (refused_at (codes "K3") 0, inr (inr (K3 0, (refl, tt))))

module _ {S : Type 0} (written : S → Option (List ℕ)) (faults sure : S → ℕ) (a : S) where
  -- no text is begun
  pub starved_some : WritesSome written faults sure a a (Err Memory)
  starved_some = let r : Report = record { status = Done; text = [] } in (r, (record { status = inl refl }, starved_written written faults sure a r))

  pub starved_matrix : (found : Option (List ℕ)) → WritesMatrix written faults sure a a found (Err Memory)
  starved_matrix found = let m = some_matrix found in (m.0, (m.1, starved_written written faults sure a m.0))

module _ {S : Type 0} (written : S → Option (List ℕ)) (faults sure : S → ℕ) (a b : S) where
  -- what stands in place of any report past the limits
  abbrev PassedWritten : BuildFault → Result Status ReportFault → Type 0
  PassedWritten fault x = (found : Findings) (r : Report) → IsPassed found fault → Writes written faults sure a b (within_limits found r) x

  pub passed_matrix_of : (r : Records) (fault : BuildFault) (x : Result Status ReportFault) → IsPassed (findings_from r) fault → PassedWritten fault x
      → WritesMatrixOf written faults sure a b r x
  passed_matrix_of r fault x is p = let m = some_matrix (cycle_of (findings_from r).orders) in (m.0, (m.1, p (findings_from r) m.0 is))

  pub judged_passed : (r : Records) (fault : BuildFault) (cert : List ℕ) (x : Result Status ReportFault) → IsPassed (findings_from r) fault → PassedWritten fault x
      → WritesVerdict written faults sure a b r cert x
  judged_passed r fault cert x is p = let j = some_judgement r cert in (j.0, (j.1, p (findings_from r) j.0 is))

  -- within the limits
  pub judged_written : (r : Records) (d : Findings) (cert : List ℕ) (x : Result Status ReportFault) → d ≡ findings_from r → AreFew d
      → WritesJudged written faults sure a b r cert x → WritesVerdict written faults sure a b r cert x
  judged_written r d cert x e few p =
      (p.0, (p.1.0, subst (λ (f : Findings). Writes written faults sure a b (within_limits f p.0) x) e (few_written written faults sure a b d p.0 x few p.1.1)))

  pub orders_written : (r : Records) (d : Findings) (x : Result Status ReportFault) → d ≡ findings_from r → AreFew d
      → Writes written faults sure a b (orders_report d.orders d.periods) x → Writes written faults sure a b (orders_certificate r) x
  orders_written r d x e few p =
      subst (λ (f : Findings). Writes written faults sure a b (within_limits f (orders_report f.orders f.periods)) x) e
      (few_written written faults sure a b d (orders_report d.orders d.periods) x few p)

  pub matrix_written : (r : Records) (d : Findings) (x : Result Status ReportFault) → d ≡ findings_from r → AreFew d
      → WritesMatrix written faults sure a b (cycle_of d.orders) x → WritesMatrixOf written faults sure a b r x
  matrix_written r d x e few p =
      subst (λ (f : Findings). (m : Report) × (IsMatrixReport (cycle_of f.orders) m × Writes written faults sure a b (within_limits f m) x)) e
      (p.0, (p.1.0, few_written written faults sure a b d p.0 x few p.1.1))
