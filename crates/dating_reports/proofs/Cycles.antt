-- A set of orders has a first cycle exactly where it has a cycle.
use Rattle.std.proofs.Common.{◌≡◌, ℕ, ℤ, List, [], ◌++◌, Bool, true, false, length, inl, inr, refl, sym, ap, ◌∙◌, subst}
use Rattle.std.specs.Prelude.{◌⊎◌, Option, None, Some, IsSome, is_none}
use Rattle.std.proofs.lemmas.Bool.{true≢false}
use Rattle.order_laws.specs.declared.Point.{Point}
use Rattle.order_laws.specs.Chains.{HasCycle}
use Rattle.order_laws.specs.ChainSearch.{first_chain, first_cycle}
use Rattle.order_laws.specs.Closure.{first_strict_loop}
use Rattle.order_laws.specs.Tables.{IsOrderSet}
use Rattle.order_laws.proofs.ChainSearch.{cases_option, chain_there, cycle_is}
use Rattle.order_laws.proofs.Loops.{loop_is_first, cycle_decided}
use Rattle.order_core.specs.Sets.{Orders}
use Rattle.order_analysis.specs.Subjects.{cycle_of}
use Rattle.reason_report.specs.Reason.{text_by}
use Rattle.dating_bounds.specs.Dated.{dated}
use Rattle.dating_bounds.proofs.Dating.{none_dated, none_undated}

loop_option : (o : Option Point) → (o ≡ None) ⊎ ((x : Point) × (o ≡ Some x))
loop_option None = inl refl
loop_option (Some x) = inr (x, refl)

none_is : (o : Option (List ℕ)) → IsSome o → o ≡ None → ⊥
none_is o some e = let P : Option (List ℕ) → Type 0 = λ z. IsSome z in true≢false (sym (subst P e some))

module _ (set : Orders) (keeps : IsOrderSet set.list set.extents set.dates) where
  pub no_cycle_of : cycle_of set ≡ None → HasCycle set.list → ⊥
  no_cycle_of e cycle =
      elim (loop_option (first_strict_loop set.list set.extents (length set.dates))) [
        | inl nothing ↦
            (let there : Option Point → Bool = λ o. elim o as (λ _. Bool) [ None ↦ false | Some _ ↦ true ] in
            true≢false (sym ((cycle_decided set.list set.extents (length set.dates) keeps.low_in_range).0 cycle) ∙ ap there nothing))
        | inr found ↦
            (let loops = (loop_is_first set.list set.extents (length set.dates) found.0 found.1).loops in
            none_is (first_chain set.list found.0 found.0 true) (chain_there set.list found.0 found.0 true loops.0 loops.1.0 (λ h. loops.1.1))
            (rw (found.1, first_cycle) at e))
      ]

  pub cycle_of_none : (HasCycle set.list → ⊥) → cycle_of set ≡ None
  cycle_of_none none =
      elim (cases_option (cycle_of set)) [
        | inl nothing ↦ nothing
        | inr found ↦
            (let first = cycle_is set.list set.extents (length set.dates) found.0 found.1 in
            absurd (none (first.point, first.loop.loops)))
      ]

  -- what is printed of orders that have a cycle is that alone
  pub text_of_cycle : (cycle_of set ≡ None → ⊥) → (text : List ℕ) → text_by (cycle_of set) [] ≡ text_by (cycle_of set) text
  text_of_cycle some text =
      elim (cases_option (cycle_of set)) [
        | inl nothing ↦ absurd (some nothing)
        | inr found ↦ rw found.1 refl
      ]

  pub some_cycle : (cycle_of set ≡ None → ⊥) → false ≡ is_none (cycle_of set)
  some_cycle some =
      elim (cases_option (cycle_of set)) [
        | inl nothing ↦ absurd (some nothing)
        | inr found ↦ rw found.1 refl
      ]

  module _ (t : ℤ) where
    pub cycle_there : HasCycle (dated set t).list → cycle_of set ≡ None → ⊥
    cycle_there cycle nothing = none_dated set keeps t (no_cycle_of nothing) cycle

    pub cycle_gone : (HasCycle (dated set t).list → ⊥) → cycle_of set ≡ None
    cycle_gone none = cycle_of_none (none_undated set keeps t none)
