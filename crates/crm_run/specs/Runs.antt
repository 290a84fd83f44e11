-- What is known of a run.
use Rattle.std.specs.Prelude.{◌≡◌, ◌⊎◌, ℕ, List, Option, Bool, true, IfSome}
use Rattle.crm_outside.specs.Causes.{Rose}
use Rattle.crm_outside.specs.Shelves.{Files}
use Rattle.report_base.specs.Reports.{Report}
use Rattle.report_base.specs.declared.status.Status.{Status}
use Rattle.report_base.specs.declared.status.Status.TheVariants.{Usage, ReadFault, WriteFault}
use Rattle.command_words.specs.declared.tasks.Task.{Task}
use Rattle.crm_run.specs.Headline.{JudgesTruly}
use Rattle.crm_run.specs.Outcomes.{Ends, Faulted, IsUsage, Outcome}
use Rattle.crm_run.specs.Report.{asked_report, read_fault_report}

-- of one over a shelf with these files that is honest or not, and whose count of faults rose or not
pub record Runs {S : Type 0} (written : S → Option (List ℕ)) (faults sure : S → ℕ) (old new : S)
    (files : Option Files) (is_honest : Bool) (rose : Type 0) (task : Option Task) (status : Status) : Type 0 where
  -- the text is that of the report; or, where the shelf's count rose, the line of a read fault
  pub report : IfSome files (λ fs.
      Ends written faults sure old new (asked_report task fs) status ⊎ Faulted written faults sure old new rose fs task status)
  pub honest : is_honest ≡ true → IfSome files (λ fs. Ends written faults sure old new (asked_report task fs) status)
  pub verdict : IfSome files (λ fs. JudgesTruly written old new fs task status)
  pub usage : status ≡ Usage → IsUsage files task
  pub read : status ≡ ReadFault → rose
  pub write : status ≡ WriteFault → Rose (faults old) (faults new)

-- of a part of one, from the reading of a file on
pub record RunsOn {S : Type 0} (written : S → Option (List ℕ)) (faults sure : S → ℕ) (old new : S)
    (files : Option Files) (is_honest : Bool) (rose : Type 0) (name : List ℕ) (told : Files → Option Report) (status : Status) : Type 0 where
  pub report : IfSome files (λ fs. Ends written faults sure old new (told fs) status ⊎ (rose × Outcome written faults sure old new (read_fault_report name) status))
  pub honest : is_honest ≡ true → IfSome files (λ fs. Ends written faults sure old new (told fs) status)
  pub usage : status ≡ Usage → ⊥
  pub read : status ≡ ReadFault → rose
  pub write : status ≡ WriteFault → Rose (faults old) (faults new)
