-- What is said of dates is true of every placing.
use Rattle.std.proofs.Common.{◌≡◌, ℕ, ℤ, List, ◌++◌, Option, None, refl, sym, ap, subst, ◌∙◌}
use Rattle.std.specs.Prelude.{◌↔◌, is_none}
use Rattle.std.proofs.lemmas.List.{append_assoc}
use Rattle.rdf_terms.specs.declared.triples.Records.{Records}
use Rattle.order_laws.specs.declared.Point.{Point}
use Rattle.order_laws.specs.Placings.{IsConsistent}
use Rattle.order_laws.specs.Tables.{IsOrderSet}
use Rattle.order_core.specs.Sets.{Orders}
use Rattle.order_analysis.specs.Subjects.{cycle_of}
use Rattle.reason_report.specs.Reason.{text_by}
use Rattle.boundary_orders.specs.Dossiers.{AreFew}
use Rattle.dating_bounds.specs.declared.extremes.Bound.{Bound}
use Rattle.dating_bounds.specs.declared.moments.During.{During}
use Rattle.dating_reports.specs.Bounds.{around_report, around_text, bounds_report, status_by}
use Rattle.dating_reports.specs.Headlines.{AreBounds, AreDuring, text_of_bounds, text_of_during}
use Rattle.dating_reports.specs.When.{at_report, at_text, instant_line, periods_text, when_report}
use Rattle.report_base.specs.declared.status.Status.TheVariants.{Done}
use Rattle.report_base.specs.Reports.{Report, findings_from}
use Rattle.report_base.specs.Texts.{extents_text, orders_text}
use Rattle.report_base.proofs.Limits.{within}
use Rattle.crm_run.specs.Headline.{HasPlacing, IsBounded, IsUnderWayAt, SaysInconsistent}
use Rattle.crm_run.proofs.Contradictions.{placed_none, says_inconsistent}

module _ (consistent_law : (set : Orders) → IsOrderSet set.list set.extents set.dates → (cycle_of set ≡ None) ↔ IsConsistent set.list set.dates set.extents)
    (sets : (r : Records) → IsOrderSet (findings_from r).orders.list (findings_from r).orders.extents (findings_from r).orders.dates)
    (r : Records) (few : AreFew (findings_from r)) where
  abbrev set : Orders
  set = (findings_from r).orders

  -- what is asked within the limits is done where the orders are consistent
  done : (given asked : Report) → given ≡ asked → asked.status ≡ status_by (is_none (cycle_of set)) → HasPlacing set → given.status ≡ Done
  done given asked same is placed =
      ap (λ (x : Report). x.status) same ∙ is ∙ ap (λ (o : Option (List ℕ)). status_by (is_none o)) (placed_none consistent_law set (sets r) placed)

  pub true_bounds : ((bounds_report r).status ≡ Done → (bounds : Point → Bound) × (AreBounds set bounds × ((bounds_report r).text ≡ text_of_bounds r bounds))) →
      IsBounded r (around_report r.names (findings_from r)).text
  true_bounds law = record {
    inconsistent = says_inconsistent consistent_law set (sets r) (orders_text r.names (findings_from r)) (λ o. text_by o (around_text set)) (λ cycle. refl);
    bounded = λ placed.
        (let same : bounds_report r ≡ around_report r.names (findings_from r) = within (findings_from r) (around_report r.names (findings_from r)) few in
        let found = law (done (bounds_report r) (around_report r.names (findings_from r)) same refl placed) in
        (found.0, (found.1.0, sym (ap (λ (x : Report). x.text) same) ∙ found.1.1)));
  }

  pub true_moments : (t : ℤ) → ((when_report r t).status ≡ Done → (during : ℕ → During) × (AreDuring set t during × ((when_report r t).text ≡ text_of_during r t during))) →
      IsUnderWayAt t r (at_report r.names (findings_from r) t).text
  true_moments t law =
      let extents : List ℕ = extents_text r.names (findings_from r).extents in
      let text : List ℕ = at_text set (findings_from r).periods t in
      record {
        inconsistent = subst (λ (x : List ℕ). SaysInconsistent set (extents ++ instant_line t) x ↔ (HasPlacing set → ⊥)) (append_assoc extents (instant_line t) text)
            (says_inconsistent consistent_law set (sets r) (extents ++ instant_line t) (λ o. text_by o (periods_text set (findings_from r).periods t)) (λ cycle. refl));
        periods = λ placed.
            (let same : when_report r t ≡ at_report r.names (findings_from r) t = within (findings_from r) (at_report r.names (findings_from r) t) few in
            let found = law (done (when_report r t) (at_report r.names (findings_from r) t) same refl placed) in
            (found.0, (found.1.0, sym (ap (λ (x : Report). x.text) same) ∙ found.1.1)));
      }
