-- From what was printed to how a run ends.
use Rattle.std.proofs.Common.{◌≡◌, ℕ, ◌≤◌, List, length, sym, subst, arith, Option, Some, None, inl, inr, refl}
use Rattle.std.specs.Prelude.{IfSome, ◌⊎◌, Result, Ok, Err}
use Rattle.crm_outside.specs.Causes.{Rose}
use Rattle.crm_outside.specs.Shelves.{Files}
use Rattle.crm_outside.proofs.PrintedTexts.{starved}
use Rattle.report_base.specs.declared.status.Status.{Status}
use Rattle.report_base.specs.declared.status.Status.TheVariants.{Done, Findings, Refused, Usage, ReadFault, WriteFault, Memory}
use Rattle.report_base.specs.declared.status.ReportFault.{ReportFault}
use Rattle.report_base.specs.declared.status.ReportFault.TheVariants as report
use Rattle.report_base.specs.Reports.{Report, Writes}
use Rattle.command_words.specs.declared.tasks.Task.{Task}
use Rattle.crm_run.specs.Outcomes.{Outcome, Ends, IsComplete, Faulted, ended}
use Rattle.crm_run.specs.Report.{asked_report}

module _ {S : Type 0} (written : S → Option (List ℕ)) (faults sure : S → ℕ) (a b : S) where
  -- what was written of a report is its end
  pub written_ends : (p : Report) (w : Result Status ReportFault) → Writes written faults sure a b p w → Outcome written faults sure a b p (ended w)
  written_ends p (Ok Done) h = (sym h.status.0, h.ok)
  written_ends p (Ok Findings) h = (sym h.status.0, h.ok)
  written_ends p (Ok Refused) h = (sym h.status.0, h.ok)
  written_ends p (Ok Usage) h = (sym h.status.0, h.ok)
  written_ends p (Ok ReadFault) h = absurd h.status.1
  written_ends p (Ok WriteFault) h = absurd h.status.1
  written_ends p (Ok Memory) h = absurd h.status.1
  written_ends p (Err report.Failed) h = h.err
  written_ends p (Err report.Memory) h = h.err

  pub told_ends : (o : Option Report) (w : Result Status ReportFault) → IfSome o (λ p. Writes written faults sure a b p w) → Ends written faults sure a b o (ended w)
  told_ends None w h = tt
  told_ends (Some p) w h = written_ends p w h

  -- a report that broke off at the sink
  pub failed : (p : Report) (w : Result Status ReportFault) → Writes written faults sure a b p w → w ≡ Err report.Failed → Rose (faults a) (faults b)
  failed p (Ok s) h e = absurd (let never : ⊥ = cc in never)
  failed p (Err report.Failed) h e = h.err.cause refl
  failed p (Err report.Memory) h e = absurd (let never : ⊥ = cc in never)

  -- a report ends with its own status, or breaks off
  settled : (p : Report) (s : Status) → Outcome written faults sure a b p s → (s ≡ p.status) ⊎ ((s ≡ WriteFault) ⊎ (s ≡ Memory))
  settled p Done h = inl (sym h.0)
  settled p Findings h = inl (sym h.0)
  settled p Refused h = inl (sym h.0)
  settled p Usage h = inl (sym h.0)
  settled p ReadFault h = inl (sym h.0)
  settled p WriteFault h = inr (inl refl)
  settled p Memory h = inr (inr refl)

  -- a status that it doesn't end with
  pub not_ended : (p : Report) (s t : Status) → (WriteFault ≡ t → ⊥) → (Memory ≡ t → ⊥) → (p.status ≡ t → ⊥) → Outcome written faults sure a b p s → s ≡ t → ⊥
  not_ended p s t no_write no_memory no_own h e =
      elim (settled p s h) [
        | inl own ↦ no_own (subst (λ (x : Status). x ≡ t) own e)
        | inr broken ↦ elim broken [
          | inl write ↦ no_write (subst (λ (x : Status). x ≡ t) write e)
          | inr memory ↦ no_memory (subst (λ (x : Status). x ≡ t) memory e)
        ]
      ]

  pub no_usage_end : (p : Report) (s : Status) → (p.status ≡ Usage → ⊥) → Outcome written faults sure a b p s → s ≡ Usage → ⊥
  no_usage_end p s own h e = not_ended p s Usage (λ d. let never : ⊥ = cc in never) (λ d. let never : ⊥ = cc in never) own h e

  pub no_read_fault_end : (p : Report) (s : Status) → (p.status ≡ ReadFault → ⊥) → Outcome written faults sure a b p s → s ≡ ReadFault → ⊥
  no_read_fault_end p s own h e = not_ended p s ReadFault (λ d. let never : ⊥ = cc in never) (λ d. let never : ⊥ = cc in never) own h e

  -- a write failed
  pub write_end : (p : Report) (s : Status) → Outcome written faults sure a b p s → s ≡ WriteFault → Rose (faults a) (faults b)
  write_end p s h e = (subst (λ (x : Status). Outcome written faults sure a b p x) e h).cause refl

  module _ (status : Status) where
    -- neither device failed, so the text is whole or memory was wanting
    whole : (r : Report) → (Rose (faults a) (faults b) → ⊥) → Outcome written faults sure a b r status → IsComplete written faults sure a b r status
    whole r calm p = by status p
      where
        by : (s : Status) → Outcome written faults sure a b r s → IsComplete written faults sure a b r s
        by Done p = inr (sym p.0, p.1)
        by Findings p = inr (sym p.0, p.1)
        by Refused p = inr (sym p.0, p.1)
        by Usage p = inr (sym p.0, p.1)
        by ReadFault p = inr (sym p.0, p.1)
        by WriteFault p = absurd (calm (p.cause refl))
        by Memory p = inl refl

    whole_told : (o : Option Report) → (Rose (faults a) (faults b) → ⊥) → Ends written faults sure a b o status → IfSome o (λ r. IsComplete written faults sure a b r status)
    whole_told None calm p = tt
    whole_told (Some r) calm p = whole r calm p

    not_faulted : (rose : Type 0) (files : Files) (task : Option Task) → (rose → ⊥) → Faulted written faults sure a b rose files task status → ⊥
    not_faulted rose files None calm p = p
    not_faulted rose files (Some task) calm p = calm p.0

    pub calm : (rose : Type 0) (o : Option Files) (task : Option Task) →
        IfSome o (λ files. Ends written faults sure a b (asked_report task files) status ⊎ Faulted written faults sure a b rose files task status) →
        (rose → ⊥) → (Rose (faults a) (faults b) → ⊥)
        → IfSome o (λ files. IfSome (asked_report task files) (λ r. IsComplete written faults sure a b r status))
    calm rose None task p read write = tt
    calm rose (Some files) task p read write = elim p [
      | inl ends ↦ whole_told (asked_report task files) write ends
      | inr faulted ↦ absurd (not_faulted rose files task read faulted)
    ]

    -- the sink is sure of the text, so it did not fail
    sure_whole : (r : Report) → length r.text ≤ sure a → Outcome written faults sure a b r status → IsComplete written faults sure a b r status
    sure_whole r le p = by status p
      where
        by : (s : Status) → Outcome written faults sure a b r s → IsComplete written faults sure a b r s
        by Done p = inr (sym p.0, p.1)
        by Findings p = inr (sym p.0, p.1)
        by Refused p = inr (sym p.0, p.1)
        by Usage p = inr (sym p.0, p.1)
        by ReadFault p = inr (sym p.0, p.1)
        by WriteFault p = absurd (let lt = p.never refl in omega (arith, lt))
        by Memory p = inl refl

    sure_told : (o : Option Report) → Ends written faults sure a b o status → IfSome o (λ r. length r.text ≤ sure a → IsComplete written faults sure a b r status)
    sure_told None p = tt
    sure_told (Some r) p = λ le. sure_whole r le p

    pub certain : (o : Option Files) (task : Option Task) → IfSome o (λ files. Ends written faults sure a b (asked_report task files) status)
        → IfSome o (λ files. IfSome (asked_report task files) (λ r. length r.text ≤ sure a → IsComplete written faults sure a b r status))
    certain None task p = tt
    certain (Some files) task p = sure_told (asked_report task files) p

-- memory was wanting before anything was printed
module _ {S : Type 0} (written : S → Option (List ℕ)) (faults sure : S → ℕ) (a : S) where
  pub starved_end : (r : Report) → Outcome written faults sure a a r Memory
  starved_end r = starved written faults sure a r.text

-- what may be said of every report
module _ {S : Type 0} (written : S → Option (List ℕ)) (faults sure : S → ℕ) (a b : S) (s : Status) (h : (r : Report) → Outcome written faults sure a b r s) where
  pub any_ends : (o : Option Report) → Ends written faults sure a b o s
  any_ends None = tt
  any_ends (Some r) = h r

  pub any_told : (told : Files → Option Report) (o : Option Files) → IfSome o (λ files. Ends written faults sure a b (told files) s)
  any_told told None = tt
  any_told told (Some files) = any_ends (told files)
