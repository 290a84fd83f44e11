-- The set with the instant among its dates, within the limits.
use Rattle.std.proofs.Common.{◌≡◌, ℕ, ℤ, List, true, false, refl, ◌+◌, ◌<◌, ◌≤◌, ◌^◌, length, arith, inl, inr, sym, ap, subst, ◌∙◌}
use Rattle.std.specs.Prelude.{None, is_none}
use Rattle.std.proofs.lemmas.Bool.{cases_Bool}
use Rattle.order_laws.specs.Chains.{HasCycle}
use Rattle.order_laws.specs.Tables.{IsOrderSet}
use Rattle.order_core.specs.Sets.{Orders}
use Rattle.order_closure.specs.Closures.{Closed, IsClosureOf}
use Rattle.dating_bounds.specs.Dated.{dated, place_of, is_dated}
use Rattle.dating_bounds.proofs.Dating.{dated_at, dated_extents, length-inserted_list}
use Rattle.order_analysis.specs.Subjects.{cycle_of}
use Rattle.dating_reports.specs.When.{IsDated, IsMoment, moments_text, periods_text, cycle_text, at_text}
use Rattle.dating_reports.proofs.Cycles.{text_of_cycle, some_cycle, cycle_there, cycle_gone}

module _ (set : Orders) (keeps : IsOrderSet set.list set.extents set.dates) (t : ℤ) where
  pub length-dated : length (dated set t).list ≤ length set.list + 2
  length-dated =
      elim (cases_Bool (is_dated set.dates t)) [
        | inl old ↦ rw old (omega arith)
        | inr new ↦ rw new (length-inserted_list set.list (place_of set.dates t) (length set.dates))
      ]

  pub moment_of : (news : Orders) (closure : Closed) (date : ℕ) → IsDated set t news closure date → (HasCycle news.list → ⊥) → length set.list ≤ 65536 →
      IsMoment news closure date
  moment_of news closure date d none few = record {
    closed = d.closed;
    consistent = none;
    dated = (let P : Orders → Type 0 = λ s. date < length s.dates in subst P (sym d.is) (omega (arith, (dated_at set keeps t).0, d.place)));
    few = (let P : Orders → Type 0 = λ s. length s.list + 2 < 2 ^ 32 in subst P (sym d.is) (omega (arith, length-dated, few)));
  }

  pub same_extents : (news : Orders) → news ≡ dated set t → set.extents ≡ news.extents
  same_extents news is = sym (ap (λ (s : Orders). s.extents) is ∙ dated_extents set keeps t)

  module _ (news : Orders) (closure : Closed) (date : ℕ) (periods : List ℕ) (d : IsDated set t news closure date) where
    pub text_of_periods : (HasCycle news.list → ⊥) → moments_text news date periods ≡ at_text set periods t
    text_of_periods none =
        let P : Orders → Type 0 = λ s. HasCycle s.list → ⊥ in
        let gone : cycle_of set ≡ None = cycle_gone set keeps t (subst P d.is none) in
        ap (λ (s : Orders). moments_text s date periods) d.is ∙ ap (λ n. moments_text (dated set t) n periods) d.place ∙ (rw gone refl)

    pub text_of_inconsistent : HasCycle news.list → cycle_text set ≡ at_text set periods t
    text_of_inconsistent cycle =
        let P : Orders → Type 0 = λ s. HasCycle s.list in
        text_of_cycle set keeps (cycle_there set keeps t (subst P d.is cycle)) (periods_text set periods t)

    pub is_consistent : (HasCycle news.list → ⊥) → true ≡ is_none (cycle_of set)
    is_consistent none =
        let P : Orders → Type 0 = λ s. HasCycle s.list → ⊥ in
        let gone : cycle_of set ≡ None = cycle_gone set keeps t (subst P d.is none) in
        rw gone refl

    pub is_inconsistent : HasCycle news.list → false ≡ is_none (cycle_of set)
    is_inconsistent cycle =
        let P : Orders → Type 0 = λ s. HasCycle s.list in
        some_cycle set keeps (cycle_there set keeps t (subst P d.is cycle))
