-- A text says `inconsistent` exactly where no placing satisfies the orders.
use Rattle.std.proofs.Common.{◌≡◌, ℕ, List, ◌++◌, length, Option, Some, None, sym, ap, ◌∙◌, inl, inr}
use Rattle.std.specs.Prelude.{◌↔◌}
use Rattle.std.proofs.lemmas.List.{append_cancel_left}
use Rattle.order_laws.specs.Chains.{HasCycle}
use Rattle.order_laws.specs.Tables.{IsOrderSet}
use Rattle.order_laws.specs.Placings.{IsConsistent}
use Rattle.order_laws.proofs.ChainSearch.{cases_option, cycle_is}
use Rattle.order_laws.proofs.Hold.{cycle_refutes}
use Rattle.order_core.specs.Sets.{Orders}
use Rattle.reason_report.specs.Reason.{inconsistent_text}
use Rattle.order_analysis.specs.Subjects.{cycle_of}
use Rattle.crm_run.specs.Headline.{HasPlacing, SaysInconsistent}

pub no_cycle : (set : Orders) → HasPlacing set → HasCycle set.list → ⊥
no_cycle set placed cycle = cycle_refutes set.list set.dates set.extents cycle placed

module _ (consistent_law : (set : Orders) → IsOrderSet set.list set.extents set.dates → (cycle_of set ≡ None) ↔ IsConsistent set.list set.dates set.extents)
    (set : Orders) (conditions : IsOrderSet set.list set.extents set.dates) where
  pub placed_none : HasPlacing set → cycle_of set ≡ None
  placed_none placed = (consistent_law set conditions).1 placed

  pub says_inconsistent : (front : List ℕ) (text : Option (List ℕ) → List ℕ) → ((cycle : List ℕ) → text (Some cycle) ≡ inconsistent_text cycle) →
      SaysInconsistent set front (front ++ text (cycle_of set)) ↔ (HasPlacing set → ⊥)
  says_inconsistent front text is = (
    λ s. λ placed. no_cycle set placed (s.first.point, s.first.loop.loops),
    λ none.
        elim (cases_option (cycle_of set)) [
          | inl e ↦ absurd (none ((consistent_law set conditions).0 e))
          | inr found ↦ record {
            cycle = found.0;
            first = cycle_is set.list set.extents (length set.dates) found.0 found.1;
            says = ap (λ (o : Option (List ℕ)). front ++ text o) found.1 ∙ ap (λ (t : List ℕ). front ++ t) (is found.0);
          }
        ],
  )

  pub says_consistent : (front : List ℕ) (text : Option (List ℕ) → List ℕ) → ((cycle : List ℕ) → text (Some cycle) ≡ text None → ⊥) →
      (front ++ text (cycle_of set) ≡ front ++ text None) ↔ HasPlacing set
  says_consistent front text apart = (
    λ e.
        elim (cases_option (cycle_of set)) [
          | inl none ↦ (consistent_law set conditions).0 none
          | inr found ↦ absurd (apart found.0 (sym (ap text found.1) ∙ append_cancel_left front (text (cycle_of set)) (text None) e))
        ],
    λ placed. ap (λ (o : Option (List ℕ)). front ++ text o) (placed_none placed),
  )
