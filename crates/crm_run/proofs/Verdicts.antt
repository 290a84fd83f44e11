-- What is said of a certificate that is accepted is true of the records.
use Rattle.std.proofs.Common.{◌≡◌, ℕ, List, Option, Some, None, IfSome, Result, Ok, Err, refl, sym, ap, subst, ◌∙◌, inl, inr}
use Rattle.rdf_terms.specs.declared.triples.Records.{Records}
use Rattle.rdf_reading.specs.Answers.{Answer}
use Rattle.rdf_reading.specs.Answers.Answer.{Refuse, Read}
use Rattle.certificate_trees.specs.declared.refusals.CertRefusal.{CertRefusal}
use Rattle.certificate_trees.specs.declared.refusals.CertRefusal.TheVariants as refusal
use Rattle.crm_outside.specs.Printing.{Printed}
use Rattle.crm_outside.specs.Shelves.{Files, Gives}
use Rattle.report_base.specs.declared.status.ReportFault.{ReportFault}
use Rattle.report_base.specs.declared.status.ReportFault.TheVariants as report
use Rattle.report_base.specs.declared.status.Status.{Status}
use Rattle.report_base.specs.declared.status.Status.TheVariants.{Done, Findings, Refused, Usage, ReadFault, WriteFault, Memory}
use Rattle.crm_core.specs.Files.{Answers, AnswersBytes, is_ntriples}
use Rattle.report_base.specs.Reports.{Report, Writes, findings_from, within_limits}
use Rattle.report_base.proofs.Limits.{within, few_of}
use Rattle.crm_certify.specs.Verdicts.{IsJudgement, WritesVerdict, refusal_report}
use Rattle.crm_run.specs.Headline.{IsReport, IsSaid, IsTrueVerdict}
use Rattle.crm_run.specs.Outcomes.{Outcome, ended}
use Rattle.crm_run.specs.Report.{answer_at, answer_of}

no_report : (s : Status) → (s ≡ Done → ⊥) → (s ≡ Findings → ⊥) → IsReport s → ⊥
no_report s done found is = elim is [ inl d ↦ done d | inr f ↦ found f ]

pub refused_is_none : IsReport Refused → ⊥
refused_is_none is = no_report Refused (λ e. let never : ⊥ = cc in never) (λ e. let never : ⊥ = cc in never) is

usage_is_none : IsReport Usage → ⊥
usage_is_none is = no_report Usage (λ e. let never : ⊥ = cc in never) (λ e. let never : ⊥ = cc in never) is

pub read_fault_is_none : IsReport ReadFault → ⊥
read_fault_is_none is = no_report ReadFault (λ e. let never : ⊥ = cc in never) (λ e. let never : ⊥ = cc in never) is

write_fault_is_none : IsReport WriteFault → ⊥
write_fault_is_none is = no_report WriteFault (λ e. let never : ⊥ = cc in never) (λ e. let never : ⊥ = cc in never) is

pub memory_is_none : IsReport Memory → ⊥
memory_is_none is = no_report Memory (λ e. let never : ⊥ = cc in never) (λ e. let never : ⊥ = cc in never) is

abbrev status_in : Option Report → Status
status_in None = Refused
status_in (Some p) = p.status

refusals_are_refused : (f : CertRefusal) → status_in (refusal_report f) ≡ Refused
refusals_are_refused (refusal.K1 at) = refl
refusals_are_refused (refusal.K2 at) = refl
refusals_are_refused (refusal.K3 at) = refl
refusals_are_refused (refusal.K4 at) = refl
refusals_are_refused (refusal.K5 at) = refl
refusals_are_refused (refusal.K6 at) = refl
refusals_are_refused refusal.Memory = refl

refused_by : (p : Report) → p.status ≡ Refused → IsReport p.status → ⊥
refused_by p e is = refused_is_none (subst (λ (s : Status). IsReport s) e is)

module _ {S : Type 0} (written : S → Option (List ℕ)) (faults sure : S → ℕ) (a b : S) where
  -- what was written whole
  whole : (p : Report) (w : Result Status ReportFault) → Writes written faults sure a b p w → IsReport (ended w) →
      IsReport p.status × Printed written faults sure a b p.text
  whole p (Ok Done) h is = (inl (sym h.status.0), h.ok)
  whole p (Ok Findings) h is = (inr (sym h.status.0), h.ok)
  whole p (Ok Refused) h is = absurd (refused_is_none is)
  whole p (Ok Usage) h is = absurd (usage_is_none is)
  whole p (Ok ReadFault) h is = absurd (read_fault_is_none is)
  whole p (Ok WriteFault) h is = absurd (write_fault_is_none is)
  whole p (Ok Memory) h is = absurd (memory_is_none is)
  whole p (Err report.Failed) h is = absurd (write_fault_is_none is)
  whole p (Err report.Memory) h is = absurd (memory_is_none is)

  said : (r : Records) (cert : List ℕ) (p : Report) → IsJudgement r cert p → IsReport p.status →
      Printed written faults sure a b p.text → IsSaid written a b (IsTrueVerdict r cert)
  said r cert p j is h =
      elim j [
        | inl bad ↦ absurd (refused_by p (ap (λ (x : Report). x.status) bad.1.1) is)
        | inr known ↦ elim known [
          | inl v ↦ record {
            text = p.text;
            whole = h.whole;
            said = record { verdict = v.0; says = ap (λ (x : Report). x.text) v.1.0; borne_out = v.1.1 };
          }
          | inr f ↦ absurd (refused_by p (sym (ap status_in f.1.0) ∙ refusals_are_refused f.0) is)
        ]
      ]

  limited : (r : Records) (p : Report) → IsReport (within_limits (findings_from r) p).status → Printed written faults sure a b (within_limits (findings_from r) p).text →
      IsReport p.status × Printed written faults sure a b p.text
  limited r p is h =
      elim is [
        | inl d ↦ (let few = few_of (findings_from r) p Done (λ e. let never : ⊥ = cc in never) d in
            (inl few.1, subst (λ (x : Report). Printed written faults sure a b x.text) (within (findings_from r) p few.0) h))
        | inr f ↦ (let few = few_of (findings_from r) p Findings (λ e. let never : ⊥ = cc in never) f in
            (inr few.1, subst (λ (x : Report). Printed written faults sure a b x.text) (within (findings_from r) p few.0) h))
      ]

  accepted : (r : Records) (cert : List ℕ) (w : Result Status ReportFault) → WritesVerdict written faults sure a b r cert w → IsReport (ended w) →
      IsSaid written a b (IsTrueVerdict r cert)
  accepted r cert w h is =
      let all = whole (within_limits (findings_from r) h.0) w h.1.1 is in
      let within = limited r h.0 all.0 all.1 in
      said r cert h.0 h.1.0 within.0 within.1

  -- of the bytes that the shelf gave
  pub accepted_of : (r : Records) (name cert : List ℕ) (w : Result Status ReportFault) (s : Status) → s ≡ ended w → WritesVerdict written faults sure a b r cert w →
      (o : Option Files) → Gives o name cert →
      IfSome o (λ files. IsReport s → IfSome (files name) (λ bytes. IsSaid written a b (IsTrueVerdict r bytes)))
  accepted_of r name cert w s e h None gives = tt
  accepted_of r name cert w s e h (Some files) gives = λ is.
      subst (λ (c : Option (List ℕ)). IfSome c (λ bytes. IsSaid written a b (IsTrueVerdict r bytes))) (sym gives)
      (accepted r cert w h (subst (λ (x : Status). IsReport x) e is))

  -- a report of another status
  pub other : (p : Report) (s : Status) → IsReport s → Outcome written faults sure a b p s → IsReport p.status
  other p s is h =
      elim is [
        | inl d ↦ inl (subst (λ (x : Status). Outcome written faults sure a b p x) d h).0
        | inr f ↦ inr (subst (λ (x : Status). Outcome written faults sure a b p x) f h).0
      ]

  pub not_accepted : (r : Records) (name : List ℕ) (p : Report) (s : Status) → (IsReport p.status → ⊥) → Outcome written faults sure a b p s → (o : Option Files) →
      IfSome o (λ files. IsReport s → IfSome (files name) (λ bytes. IsSaid written a b (IsTrueVerdict r bytes)))
  not_accepted r name p s never h None = tt
  not_accepted r name p s never h (Some files) = λ is. absurd (never (other p s is h))

  pub starved : (r : Records) (name : List ℕ) (o : Option Files) →
      IfSome o (λ files. IsReport Memory → IfSome (files name) (λ bytes. IsSaid written a b (IsTrueVerdict r bytes)))
  starved r name None = tt
  starved r name (Some files) = λ is. absurd (memory_is_none is)

  abbrev records_in : Records → Answer → Records
  records_in r (Refuse code at) = r
  records_in r (Read x) = x

  abbrev answer_in : Answer → Option Answer → Answer
  answer_in x None = x
  answer_in x (Some y) = y

  same : (base : Option (List ℕ)) (name : List ℕ) (x r : Records) (o : Option (List ℕ)) → AnswersBytes (is_ntriples name) base o (Ok x)
      → answer_at base name o ≡ Some (Read r) → x ≡ r
  same base name x r None told e = absurd told
  same base name x r (Some bytes) told e = ap (records_in x) (sym told ∙ ap (answer_in (Read x)) e)

  -- of the records that were read
  pub judged_truly : (base : Option (List ℕ)) (file cert : List ℕ) (x : Records) (s : Status) (o : Option Files) → Answers o base file (Ok x) →
      IfSome o (λ files. IsReport s → IfSome (files cert) (λ bytes. IsSaid written a b (IsTrueVerdict x bytes))) →
      IfSome o (λ files. (r : Records) → answer_of files base file ≡ Some (Read r) → IsReport s → IfSome (files cert) (λ bytes. IsSaid written a b (IsTrueVerdict r bytes)))
  judged_truly base file cert x s None told h = tt
  judged_truly base file cert x s (Some files) told h = λ r e is.
      subst (λ (y : Records). IfSome (files cert) (λ bytes. IsSaid written a b (IsTrueVerdict y bytes))) (same base file x r (files file) told e) (h is)

  pub not_judged : (base : Option (List ℕ)) (file cert : List ℕ) (s : Status) (o : Option Files) → (IsReport s → ⊥) →
      IfSome o (λ files. (r : Records) → answer_of files base file ≡ Some (Read r) → IsReport s → IfSome (files cert) (λ bytes. IsSaid written a b (IsTrueVerdict r bytes)))
  not_judged base file cert s None never = tt
  not_judged base file cert s (Some files) never = λ r e is. absurd (never is)
