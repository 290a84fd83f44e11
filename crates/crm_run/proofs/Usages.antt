-- When a run answers usage.
use Rattle.std.proofs.Common.{◌≡◌, ℕ, ℤ, Bool, true, false, List, [], ◌∷◌, length, Option, Some, None, Result, Ok, Err, IfOk, refl, sym, ap, subst, ◌∙◌, inl, inr}
use Rattle.std.specs.Prelude.{◌⊎◌, codes, is_none, nat_lt, if◌then◌else◌}
use Rattle.rdf_terms.specs.declared.triples.Records.{Records}
use Rattle.rdf_reading.specs.Answers.{Answer}
use Rattle.rdf_reading.specs.Answers.Answer.{Refuse, Read}
use Rattle.certificate_checker.specs.declared.verdicts.Verdict.{Verdict}
use Rattle.certificate_checker.specs.declared.verdicts.Verdict.TheVariants.{Consistent, Inconsistent, Classes, Matrix as MatrixVerdict}
use Rattle.certificate_trees.specs.declared.refusals.CertRefusal.{CertRefusal}
use Rattle.certificate_trees.specs.declared.refusals.CertRefusal.TheVariants as refusal
use Rattle.crm_type_check.specs.declared.Fault.{Fault}
use Rattle.boundary_orders.specs.Dossiers.{Findings as Found}
use Rattle.order_analysis.specs.Subjects.{cycle_of}
use Rattle.report_base.specs.declared.status.ReportFault.{ReportFault}
use Rattle.report_base.specs.declared.status.ReportFault.TheVariants as report
use Rattle.report_base.specs.declared.status.Status.{Status}
use Rattle.report_base.specs.declared.status.Status.TheVariants.{Done, Findings, Refused, Usage, ReadFault, WriteFault, Memory}
use Rattle.crm_core.specs.Files.{file_answer}
use Rattle.report_base.specs.Reports.{Report, IsEnding, status_by, faults_in, findings_from, passed, within_limits}
use Rattle.inference_reports.specs.Reasons.{status_when, reasons_report}
use Rattle.record_reports.specs.RecordReports.{dossier_report}
use Rattle.report_base.proofs.Limits.{few_of}
use Rattle.rdf_terms.specs.declared.terms.Refusal.{Refusal}
use Rattle.crm_legacy.specs.Modern.{modern_of}
use Rattle.period_names.specs.declared.asking.Period.{Period}
use Rattle.period_names.specs.Naming.{period_named}
use Rattle.allen_reports.specs.Reports.{allen_pair_report, lines_report, named_report, of_modern, periods_report, question_report, relations_report, status_by as allen_status, table_report}
use Rattle.dating_reports.specs.Bounds.{around_report, status_by as dating_status}
use Rattle.dating_reports.specs.When.{at_report}
use Rattle.calendar_reports.specs.Dates.{calendar_report, status_by as calendar_status}
use Rattle.order_conflicts.specs.declared.conflicts.Conflicts.{Conflicts}
use Rattle.order_conflicts.specs.Conflicts.{conflicts_in}
use Rattle.conflict_reports.specs.Texts.{found_report, outcome_status}
use Rattle.crm_matrix.specs.MatrixTexts.{matrix_found, status_of}
use Rattle.crm_core.specs.SampleReports.{sample_report, answer_report}
use Rattle.crm_matrix.specs.Samples.{sample_file, sample_found}
use Rattle.crm_certify.specs.Certificates.{orders_report_by, IsMatrixReport}
use Rattle.crm_certify.specs.Lengths.{IsCertificate}
use Rattle.order_certificates.specs.Cycles.{cycle_text}
use Rattle.order_certificates.specs.OrderCertificates.{consistent_text}
use Rattle.crm_certify.specs.Verdicts.{IsJudgement, refusal_report, verdict_status}
use Rattle.command_help.specs.Help.{help_report, version_report}
use Rattle.command_words.specs.declared.commands.CommandName.{CommandName}
use Rattle.command_words.specs.declared.commands.JoinKind.{JoinKind}
use Rattle.command_words.specs.declared.commands.JoinKind.TheVariants as joined
use Rattle.command_words.specs.Tasks.{query_of}
use Rattle.command_words.specs.declared.tasks.Query.{Query}
use Rattle.command_words.specs.declared.tasks.Listing.{Listing}
use Rattle.command_words.specs.declared.tasks.Listing.TheVariants as listing
use Rattle.crm_run.specs.Outcomes.{AreUnnamedIn, NamesNoPeriod, ended}
use Rattle.crm_run.specs.Report.{listing_by}

pub refused : Refused ≡ Usage → ⊥
refused e = let never : ⊥ = cc in never

pub done : Done ≡ Usage → ⊥
done e = let never : ⊥ = cc in never

findings : Findings ≡ Usage → ⊥
findings e = let never : ⊥ = cc in never

by_faults : (fs : List Fault) → status_by fs ≡ Usage → ⊥
by_faults [] e = done e
by_faults (f ∷ fs) e = findings e

by_consistency : (b : Bool) (fs : List Fault) → status_when b fs ≡ Usage → ⊥
by_consistency true fs e = by_faults fs e
by_consistency false fs e = findings e

pub limited : (found : Found) (r : Report) → (r.status ≡ Usage → ⊥) → (within_limits found r).status ≡ Usage → ⊥
limited found r h e = h (few_of found r Usage refused e).1

pub orders_no_usage : (r : Records) → (within_limits (findings_from r) (dossier_report r)).status ≡ Usage → ⊥
orders_no_usage r e = limited (findings_from r) (dossier_report r) done e

pub check_no_usage : (r : Records) → status_by (faults_in r) ≡ Usage → ⊥
check_no_usage r e = by_faults (faults_in r) e

pub reason_no_usage : (r : Records) → (within_limits (findings_from r) (reasons_report r)).status ≡ Usage → ⊥
reason_no_usage r e = limited (findings_from r) (reasons_report r) (by_consistency (is_none (cycle_of (findings_from r).orders)) (faults_in r)) e

matrix_status : (b : Bool) → status_of b ≡ Usage → ⊥
matrix_status true e = done e
matrix_status false e = findings e

pub matrix_no_usage : (r : Records) → (within_limits (findings_from r) (matrix_found r)).status ≡ Usage → ⊥
matrix_no_usage r e = limited (findings_from r) (matrix_found r) (matrix_status (is_none (cycle_of (findings_from r).orders))) e

bounds_status : (b : Bool) → dating_status b ≡ Usage → ⊥
bounds_status true e = done e
bounds_status false e = findings e

pub bounds_no_usage : (r : Records) → (within_limits (findings_from r) (around_report r.names (findings_from r))).status ≡ Usage → ⊥
bounds_no_usage r e = limited (findings_from r) (around_report r.names (findings_from r)) (bounds_status (is_none (cycle_of (findings_from r).orders))) e

pub when_no_usage : (r : Records) (t : ℤ) → (within_limits (findings_from r) (at_report r.names (findings_from r) t)).status ≡ Usage → ⊥
when_no_usage r t e = limited (findings_from r) (at_report r.names (findings_from r) t) (bounds_status (is_none (cycle_of (findings_from r).orders))) e

calendar_by : (b : Bool) → calendar_status b ≡ Usage → ⊥
calendar_by true e = done e
calendar_by false e = findings e

pub dates_no_usage : (r : Records) → (within_limits (findings_from r) (calendar_report r.names (findings_from r))).status ≡ Usage → ⊥
dates_no_usage r e = limited (findings_from r) (calendar_report r.names (findings_from r)) (calendar_by (is_none (cycle_of (findings_from r).orders))) e

conflicts_by : (o : Option Conflicts) → outcome_status o ≡ Usage → ⊥
conflicts_by None e = done e
conflicts_by (Some c) e = findings e

pub conflicts_no_usage : (r : Records) → (within_limits (findings_from r) (found_report r.names (findings_from r))).status ≡ Usage → ⊥
conflicts_no_usage r e = limited (findings_from r) (found_report r.names (findings_from r)) (conflicts_by (conflicts_in (findings_from r).orders)) e

of_modern_no_usage : (p : Records → Report) → ((m : Records) → (p m).status ≡ Usage → ⊥) → (o : Result Records Refusal) → (of_modern p o).status ≡ Usage → ⊥
of_modern_no_usage p h (Ok m) e = h m e
of_modern_no_usage p h (Err f) e = refused e

pub legacy_no_usage : (r : Records) → (of_modern lines_report (modern_of r)).status ≡ Usage → ⊥
legacy_no_usage r e = of_modern_no_usage lines_report (λ m d. done d) (modern_of r) e

relations_status : (o : Option (List ℕ)) → allen_status o ≡ Usage → ⊥
relations_status None e = done e
relations_status (Some cycle) e = findings e

pub allen_no_usage : (r : Records) → (of_modern table_report (modern_of r)).status ≡ Usage → ⊥
allen_no_usage r e =
    of_modern_no_usage table_report (λ m d. limited (findings_from m) (relations_report m.names (findings_from m)) (relations_status (cycle_of (findings_from m).orders)) d) (modern_of r) e

unnamed : (m : Records) (a b : List ℕ) (x y : Option Period) → (named_report m.names (findings_from m) a b x y).status ≡ Usage → (x ≡ None) ⊎ (y ≡ None)
unnamed m a b None y e = inl refl
unnamed m a b (Some x) None e = inr refl
unnamed m a b (Some x) (Some y) e = absurd (relations_status (cycle_of (findings_from m).orders) e)

pair_by : (a b : List ℕ) (o : Result Records Refusal) → (of_modern (question_report a b) o).status ≡ Usage → AreUnnamedIn a b o
pair_by a b (Ok m) e =
    let few = few_of (findings_from m) (periods_report m.names (findings_from m) a b) Usage refused e in
    (few.0, unnamed m a b (period_named m.names (findings_from m).extents a) (period_named m.names (findings_from m).extents b) few.1)
pair_by a b (Err f) e = absurd (refused e)

-- `allen` of two words
pub pair_usage : (r : Records) (a b : List ℕ) → (allen_pair_report r a b).status ≡ Usage → AreUnnamedIn a b (modern_of r)
pair_usage r a b e = pair_by a b (modern_of r) e

sampled : (n : ℕ) (a : Answer) → (answer_report n a).status ≡ Usage → ⊥
sampled n (Refuse code at) e = refused e
sampled n (Read r) e = limited (findings_from r) (sample_found n r) (matrix_status (is_none (cycle_of (findings_from r).orders))) e

pub sample_no_usage : (n : ℕ) → (sample_report n).status ≡ Usage → ⊥
sample_no_usage n e = sampled n (file_answer true None (sample_file n)) e

pub help_no_usage : (command : Option CommandName) → (help_report command).status ≡ Usage → ⊥
help_no_usage command e = done e

pub version_no_usage : version_report.status ≡ Usage → ⊥
version_no_usage e = done e

pub listing_no_usage : (l : Listing) (bytes : List ℕ) (x : Answer) → (listing_by l bytes x).status ≡ Usage → ⊥
listing_no_usage l bytes (Refuse code at) e = refused e
listing_no_usage listing.Lines bytes (Read r) e = done e

short : (b : Bool) (r : Report) → (r.status ≡ Usage → ⊥) → (if b then passed (codes "L9") (length r.text) else r).status ≡ Usage → ⊥
short true r h e = refused e
short false r h e = h e

certified : (o : Option (List ℕ)) (found : Found) → (orders_report_by o found.orders found.periods).status ≡ Usage → ⊥
certified None found e =
    let r : Report = record { status = Done; text = consistent_text found.orders found.periods } in short (nat_lt 67108864 (length r.text)) r done e
certified (Some cycle) found e =
    let r : Report = record { status = Findings; text = cycle_text cycle } in short (nat_lt 67108864 (length r.text)) r findings e

pub orders_certificate_no_usage : (r : Records) →
    (within_limits (findings_from r) (orders_report_by (cycle_of (findings_from r).orders) (findings_from r).orders (findings_from r).periods)).status ≡ Usage → ⊥
orders_certificate_no_usage r e =
    limited (findings_from r) (orders_report_by (cycle_of (findings_from r).orders) (findings_from r).orders (findings_from r).periods) (certified (cycle_of (findings_from r).orders) (findings_from r)) e

pub certificate_no_usage : (r : Report) → IsCertificate r → r.status ≡ Usage → ⊥
certificate_no_usage r is e = elim is.status [ inl d ↦ done (sym d ∙ e) | inr f ↦ refused (sym f ∙ e) ]

matrix_certificate : (o : Option (List ℕ)) (r : Report) → IsMatrixReport o r → r.status ≡ Usage → ⊥
matrix_certificate None r is e = certificate_no_usage r is e
matrix_certificate (Some cycle) r is e = findings (sym (ap (λ (x : Report). x.status) is) ∙ e)

pub matrix_certificate_no_usage : (found : Found) (o : Option (List ℕ)) (r : Report) → IsMatrixReport o r → (within_limits found r).status ≡ Usage → ⊥
matrix_certificate_no_usage found o r is e = limited found r (matrix_certificate o r is) e

by_verdict : (v : Verdict) → verdict_status v ≡ Usage → ⊥
by_verdict Consistent e = done e
by_verdict Inconsistent e = findings e
by_verdict Classes e = done e
by_verdict MatrixVerdict e = done e

abbrev status_in : Option Report → Status
status_in None = Done
status_in (Some r) = r.status

by_refusal : (f : CertRefusal) (r : Report) → refusal_report f ≡ Some r → r.status ≡ Usage → ⊥
by_refusal (refusal.K1 at) r is e = refused (ap status_in is ∙ e)
by_refusal (refusal.K2 at) r is e = refused (ap status_in is ∙ e)
by_refusal (refusal.K3 at) r is e = refused (ap status_in is ∙ e)
by_refusal (refusal.K4 at) r is e = refused (ap status_in is ∙ e)
by_refusal (refusal.K5 at) r is e = refused (ap status_in is ∙ e)
by_refusal (refusal.K6 at) r is e = refused (ap status_in is ∙ e)
by_refusal refusal.Memory r is e = let never : ⊥ = cc in never

judged : (r : Records) (cert : List ℕ) (p : Report) → IsJudgement r cert p → p.status ≡ Usage → ⊥
judged r cert p is e =
    elim is [
      | inl bad ↦ refused (sym (ap (λ (x : Report). x.status) bad.1.1) ∙ e)
      | inr known ↦ elim known [
        | inl v ↦ by_verdict v.0 (sym (ap (λ (x : Report). x.status) v.1.0) ∙ e)
        | inr f ↦ by_refusal f.0 p f.1.0 e
      ]
    ]

pub verdict_no_usage : (found : Found) (r : Records) (cert : List ℕ) (p : Report) → IsJudgement r cert p → (within_limits found p).status ≡ Usage → ⊥
verdict_no_usage found r cert p is e = limited found p (judged r cert p is) e

-- what ended with usage was written so
pub ended_usage : (w : Result Status ReportFault) (s : Status) → IfOk w (λ t. (t ≡ s) × IsEnding t) → ended w ≡ Usage → s ≡ Usage
ended_usage (Ok t) s p e = sym p.0 ∙ e
ended_usage (Err report.Failed) s p e = absurd (let never : ⊥ = cc in never)
ended_usage (Err report.Memory) s p e = absurd (let never : ⊥ = cc in never)

pub refusal_no_usage : (w : Result Status ReportFault) → IfOk w (λ t. (t ≡ Refused) × IsEnding t) → ended w ≡ Usage → ⊥
refusal_no_usage w p e = refused (ended_usage w Refused p e)

-- a status that a report was written with, by what is known of the report's own
pub no_usage : (X : Type 0) (w : Result Status ReportFault) (s : Status) → (s ≡ Usage → X) → IfOk w (λ t. (t ≡ s) × IsEnding t) → IfOk w (λ t. t ≡ Usage → X)
no_usage X (Ok t) s h p = λ e. h (sym p.0 ∙ e)
no_usage X (Err f) s h p = tt

pub is_ending : (w : Result Status ReportFault) (s : Status) → IfOk w (λ t. (t ≡ s) × IsEnding t) → IfOk w IsEnding
is_ending (Ok t) s p = p.1
is_ending (Err f) s p = tt

-- no report on several files names periods
never_named : (k : JoinKind) (r : Records) → NamesNoPeriod (query_of k) r → ⊥
never_named joined.Check r h = h
never_named joined.Orders r h = h
never_named joined.Reason r h = h
never_named joined.Convert r h = h

pub asks_nothing : (k : JoinKind) (q : Query) (r : Records) (w : Result Status ReportFault) → q ≡ query_of k → IfOk w (λ t. t ≡ Usage → NamesNoPeriod q r) →
    IfOk w (λ t. t ≡ Usage → ⊥)
asks_nothing k q r (Ok t) same h = λ e. never_named k r (subst (λ (x : Query). NamesNoPeriod x r) same (h e))
asks_nothing k q r (Err f) same h = tt

-- and what is known of an end, by what was written
pub usage_ended : (X : Type 0) (w : Result Status ReportFault) → IfOk w (λ t. t ≡ Usage → X) → ended w ≡ Usage → X
usage_ended X (Ok t) h e = h e
usage_ended X (Err report.Failed) h e = absurd (let never : ⊥ = cc in never)
usage_ended X (Err report.Memory) h e = absurd (let never : ⊥ = cc in never)

pub no_read_fault : (w : Result Status ReportFault) → IfOk w IsEnding → ended w ≡ ReadFault → ⊥
no_read_fault (Ok Done) h e = let never : ⊥ = cc in never
no_read_fault (Ok Findings) h e = let never : ⊥ = cc in never
no_read_fault (Ok Refused) h e = let never : ⊥ = cc in never
no_read_fault (Ok Usage) h e = let never : ⊥ = cc in never
no_read_fault (Ok ReadFault) h e = h
no_read_fault (Ok WriteFault) h e = h
no_read_fault (Ok Memory) h e = h
no_read_fault (Err report.Failed) h e = let never : ⊥ = cc in never
no_read_fault (Err report.Memory) h e = let never : ⊥ = cc in never

pub write_failed : (X : Type 0) (w : Result Status ReportFault) → IfOk w IsEnding → (w ≡ Err report.Failed → X) → ended w ≡ WriteFault → X
write_failed X (Ok Done) h f e = absurd (let never : ⊥ = cc in never)
write_failed X (Ok Findings) h f e = absurd (let never : ⊥ = cc in never)
write_failed X (Ok Refused) h f e = absurd (let never : ⊥ = cc in never)
write_failed X (Ok Usage) h f e = absurd (let never : ⊥ = cc in never)
write_failed X (Ok ReadFault) h f e = absurd h
write_failed X (Ok WriteFault) h f e = absurd h
write_failed X (Ok Memory) h f e = absurd h
write_failed X (Err report.Failed) h f e = f refl
write_failed X (Err report.Memory) h f e = absurd (let never : ⊥ = cc in never)
