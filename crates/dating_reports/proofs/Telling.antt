-- What is printed at `Done` holds in every placing that satisfies the orders.
use Rattle.std.proofs.Common.{◌≡◌, ℕ, ℤ, List, ◌++◌, Bool, true, false, refl, ap, ◌∙◌}
use Rattle.std.specs.Prelude.{Option, Some, None, is_none}
use Rattle.order_laws.specs.declared.Point.{Point}
use Rattle.order_laws.specs.Chains.{HasCycle}
use Rattle.order_analysis.specs.Subjects.{cycle_of}
use Rattle.dating_bounds.specs.declared.extremes.Bound.{Bound}
use Rattle.dating_bounds.specs.declared.moments.During.{During}
use Rattle.dating_bounds.specs.Around.{bound_of}
use Rattle.dating_bounds.specs.Dated.{dated, place_of}
use Rattle.dating_bounds.specs.Moment.{during_of}
use Rattle.dating_bounds.proofs.Bounding.{bound_is}
use Rattle.dating_bounds.proofs.Instants.{at_instant_is}
use Rattle.rdf_terms.specs.declared.triples.Records.{Records}
use Rattle.report_base.specs.declared.status.Status.{Status}
use Rattle.report_base.specs.declared.status.Status.TheVariants.{Done, Findings, Refused}
use Rattle.report_base.specs.Reports.{Report, findings_from, within_limits}
use Rattle.report_base.proofs.Limits.{within, few_of}
use Rattle.report_base.proofs.OrderSets.{order_set}
use Rattle.dating_reports.specs.Bounds.{status_by, around_report, bounds_report}
use Rattle.dating_reports.specs.When.{at_report, when_report}
use Rattle.dating_reports.specs.Headlines.{AreBounds, AreDuring, text_of_bounds, text_of_during}
use Rattle.dating_reports.proofs.Cycles.{no_cycle_of}

refused : Refused ≡ Done → ⊥
refused e = let never : ⊥ = cc in never

findings : Findings ≡ Done → ⊥
findings e = let never : ⊥ = cc in never

done_none : (o : Option (List ℕ)) → status_by (is_none o) ≡ Done → o ≡ None
done_none None e = refl
done_none (Some cycle) e = absurd (findings e)

module _ (r : Records) where
  pub bounds_told : (bounds_report r).status ≡ Done →
      (bounds : Point → Bound) × (AreBounds (findings_from r).orders bounds × ((bounds_report r).text ≡ text_of_bounds r bounds))
  bounds_told done =
      let few = few_of (findings_from r) (around_report r.names (findings_from r)) Done refused done in
      let nothing : cycle_of (findings_from r).orders ≡ None = done_none (cycle_of (findings_from r).orders) few.1 in
      let none : HasCycle (findings_from r).orders.list → ⊥ = no_cycle_of (findings_from r).orders (order_set r) nothing in
      let report : (bounds_report r).text ≡ (around_report r.names (findings_from r)).text =
      ap (λ (z : Report). z.text) (within (findings_from r) (around_report r.names (findings_from r)) few.0) in (
        bound_of (findings_from r).orders,
        ((λ p boundary. bound_is (findings_from r).orders (order_set r) none p boundary), report ∙ (rw nothing refl)),
      )

  pub during_told : (t : ℤ) → (when_report r t).status ≡ Done →
      (during : ℕ → During) × (AreDuring (findings_from r).orders t during × ((when_report r t).text ≡ text_of_during r t during))
  during_told t done =
      let few = few_of (findings_from r) (at_report r.names (findings_from r) t) Done refused done in
      let nothing : cycle_of (findings_from r).orders ≡ None = done_none (cycle_of (findings_from r).orders) few.1 in
      let none : HasCycle (findings_from r).orders.list → ⊥ = no_cycle_of (findings_from r).orders (order_set r) nothing in
      let report : (when_report r t).text ≡ (at_report r.names (findings_from r) t).text =
      ap (λ (z : Report). z.text) (within (findings_from r) (at_report r.names (findings_from r) t) few.0) in (
        during_of (dated (findings_from r).orders t) (place_of (findings_from r).orders.dates t),
        ((λ k h. at_instant_is (findings_from r).orders (order_set r) t none k h), report ∙ (rw nothing refl)),
      )
