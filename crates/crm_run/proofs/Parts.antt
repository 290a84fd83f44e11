-- What is known of a part of a run, from the reading of a file on.
use Rattle.std.proofs.Common.{◌≡◌, ℕ, ◌<◌, List, length, sym, subst, ◌∙◌, Option, Some, None, is_some, inl, inr, true, false, true≢false}
use Rattle.std.specs.Prelude.{IfSome, ◌⊎◌, Bool}
use Rattle.crm_outside.specs.Causes.{Rose}
use Rattle.crm_outside.specs.Shelves.{Files, Gives, IsTooLong, held}
use Rattle.report_base.specs.declared.status.Status.{Status}
use Rattle.report_base.specs.declared.status.Status.TheVariants.{Usage, ReadFault, WriteFault, Memory}
use Rattle.report_base.specs.Reports.{Report}
use Rattle.crm_run.specs.Outcomes.{Ends, Outcome}
use Rattle.crm_run.specs.Report.{bytes_report, read_fault_report}
use Rattle.crm_run.specs.Runs.{RunsOn}
use Rattle.crm_run.proofs.Endings.{any_told, no_usage_end, write_end}

module _ {S : Type 0} (written : S → Option (List ℕ)) (faults sure : S → ℕ) (a b : S) (o : Option Files) (honest : Bool) (rose : Type 0) (name : List ℕ)
    (told : Files → Option Report) (s : Status) where
  abbrev EndsIn : Option Report → Type 0
  EndsIn x = Ends written faults sure a b x s

  abbrev EndsOr : Option Report → Type 0
  EndsOr x = EndsIn x ⊎ (rose × Outcome written faults sure a b (read_fault_report name) s)

  first : (x : Option Files) → IfSome x (λ fs. EndsIn (told fs)) → IfSome x (λ fs. EndsOr (told fs))
  first None h = tt
  first (Some fs) h = inl h

  -- the report is told
  whole : IfSome o (λ fs. EndsIn (told fs)) → (s ≡ Usage → ⊥) → (s ≡ ReadFault → ⊥) → (s ≡ WriteFault → Rose (faults a) (faults b)) →
      RunsOn written faults sure a b o honest rose name told s
  whole h usage read write = record { report = first o h; honest = λ is. h; usage = usage; read = λ e. absurd (read e); write = write }

  all_ends : (x : Option Report) → ((fs : Files) → told fs ≡ x) → EndsIn x → (p : Option Files) → IfSome p (λ fs. EndsIn (told fs))
  all_ends x at h None = tt
  all_ends x at h (Some fs) = subst (λ (y : Option Report). EndsIn y) (sym (at fs)) h

  -- whatever the files are
  pub on_any : (x : Option Report) → ((fs : Files) → told fs ≡ x) → EndsIn x → (s ≡ Usage → ⊥) → (s ≡ ReadFault → ⊥) → (s ≡ WriteFault → Rose (faults a) (faults b)) →
      RunsOn written faults sure a b o honest rose name told s
  on_any x at h usage read write = whole (all_ends x at h o) usage read write

  -- memory was wanting before anything was printed
  pub on_starved : ((r : Report) → Outcome written faults sure a b r s) → s ≡ Memory → RunsOn written faults sure a b o honest rose name told s
  on_starved h e =
      whole (any_told written faults sure a b s h told o) (λ d. let same : Memory ≡ Usage = sym e ∙ d in let never : ⊥ = cc in never)
      (λ d. let same : Memory ≡ ReadFault = sym e ∙ d in let never : ⊥ = cc in never) (λ d. absurd (let same : Memory ≡ WriteFault = sym e ∙ d in let never : ⊥ = cc in never))

  module _ (said : List ℕ → Option Report) (at : (fs : Files) → told fs ≡ bytes_report name said (fs name)) where
    missing : Outcome written faults sure a b (read_fault_report name) s → (x : Option (List ℕ)) → is_some x ≡ false → EndsIn (bytes_report name said x)
    missing h None is = h
    missing h (Some bytes) is = absurd (true≢false is)

    not_held : Outcome written faults sure a b (read_fault_report name) s → (x : Option Files) → is_some (held x name) ≡ false → IfSome x (λ fs. EndsIn (told fs))
    not_held h None is = tt
    not_held h (Some fs) is = subst (λ (y : Option Report). EndsIn y) (sym (at fs)) (missing h (fs name) is)

    read_fault : Outcome written faults sure a b (read_fault_report name) s → rose → (x : Option Files) → IfSome x (λ fs. EndsOr (told fs))
    read_fault h risen None = tt
    read_fault h risen (Some fs) = inr (risen, h)

    -- the file is not read
    pub on_failed : rose → (honest ≡ true → is_some (held o name) ≡ false) → Outcome written faults sure a b (read_fault_report name) s →
        RunsOn written faults sure a b o honest rose name told s
    on_failed risen is h = record {
      report = read_fault h risen o;
      honest = λ honestly. not_held h o (is honestly);
      usage = no_usage_end written faults sure a b (read_fault_report name) s (λ d. let never : ⊥ = cc in never) h;
      read = λ e. risen;
      write = write_end written faults sure a b (read_fault_report name) s h;
    }

    given : (bytes : List ℕ) → EndsIn (said bytes) → (x : Option Files) → Gives x name bytes → IfSome x (λ fs. EndsIn (told fs))
    given bytes h None gives = tt
    given bytes h (Some fs) gives =
        subst (λ (y : Option Report). EndsIn y) (sym (at fs)) (subst (λ (y : Option (List ℕ)). EndsIn (bytes_report name said y)) (sym gives) h)

    -- it is read to these bytes
    pub on_bytes : (bytes : List ℕ) → Gives o name bytes → EndsIn (said bytes) → (s ≡ Usage → ⊥) → (s ≡ ReadFault → ⊥) → (s ≡ WriteFault → Rose (faults a) (faults b)) →
        RunsOn written faults sure a b o honest rose name told s
    on_bytes bytes gives h usage read write = whole (given bytes h o gives) usage read write

    too_long : (x : Option Report) → ((bytes : List ℕ) → 67108864 < length bytes → said bytes ≡ x) → EndsIn x → (y : Option Files) → IsTooLong y name 67108864 →
        IfSome y (λ fs. EndsIn (told fs))
    too_long x is h None long = tt
    too_long x is h (Some fs) long = given long.0 (subst (λ (y : Option Report). EndsIn y) (sym (is long.0 long.2)) h) (Some fs) long.1

    -- it has too many bytes
    pub on_long : (x : Option Report) → ((bytes : List ℕ) → 67108864 < length bytes → said bytes ≡ x) → IsTooLong o name 67108864 → EndsIn x →
        (s ≡ Usage → ⊥) → (s ≡ ReadFault → ⊥) → (s ≡ WriteFault → Rose (faults a) (faults b)) → RunsOn written faults sure a b o honest rose name told s
    on_long x is long h usage read write = whole (too_long x is h o long) usage read write

-- the count of faults rose, if only later
module _ {S : Type 0} (written : S → Option (List ℕ)) (faults sure : S → ℕ) (a b : S) (o : Option Files) (honest : Bool) (rose risen : Type 0) (name : List ℕ)
    (told : Files → Option Report) (s : Status) (later : rose → risen) (h : RunsOn written faults sure a b o honest rose name told s) where
  on_report : (x : Option Files) → IfSome x (λ fs. Ends written faults sure a b (told fs) s ⊎ (rose × Outcome written faults sure a b (read_fault_report name) s)) →
      IfSome x (λ fs. Ends written faults sure a b (told fs) s ⊎ (risen × Outcome written faults sure a b (read_fault_report name) s))
  on_report None p = tt
  on_report (Some fs) p = elim p [ inl ends ↦ inl ends | inr fault ↦ inr (later fault.0, fault.1) ]

  pub on_later : RunsOn written faults sure a b o honest risen name told s
  on_later = record { report = on_report o h.report; honest = h.honest; usage = h.usage; read = λ e. later (h.read e); write = h.write }
