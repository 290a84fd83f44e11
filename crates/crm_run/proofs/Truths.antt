-- What a report says is true of every placing.
use Rattle.std.proofs.Common.{◌≡◌, ℕ, ◌<◌, List, ◌++◌, get_or, Bool, true, false, None, refl, sym, ap, subst, ◌∙◌, arith, inl, inr}
use Rattle.std.specs.Prelude.{◌↔◌, ◌≢◌, Option, if◌then◌else◌}
use Rattle.std.specs.List.{Contains}
use Rattle.std.proofs.lemmas.Bool.{true≢false, cases_Bool}
use Rattle.std.proofs.lemmas.List.{append_cancel_left}
use Rattle.order_laws.specs.declared.Point.{Point}
use Rattle.order_laws.specs.Chains.{HasCycle}
use Rattle.order_laws.specs.Tables.{IsOrderSet}
use Rattle.order_laws.specs.FirstChains.{IsChainOf}
use Rattle.order_laws.specs.Placings.{IsSatisfied, IsConsistent, AlwaysStand, position_at}
use Rattle.order_laws.specs.Positions.{Stand}
use Rattle.order_laws.specs.Wider.{delaying_placing}
use Rattle.order_core.specs.Sets.{Orders, AreExtents}
use Rattle.order_core.specs.Primitives.{points_of}
use Rattle.order_core.specs.declared.primitives.Primitive.{Primitive}
use Rattle.reason_report.specs.Answers.{answer_text, fails_text, holds_text, is_following, verdict_text}
use Rattle.reason_report.specs.Reason.{consistent_text, inconsistent_text, report_text, text_by}
use Rattle.order_analysis.specs.Subjects.{cycle_of}
use Rattle.order_analysis.specs.Reasons.{reason_of}
use Rattle.reason_report.specs.Listings.{IsListed}
use Rattle.order_core.specs.Sides.{left_point, right_point}
use Rattle.reason_report.specs.Relations.{relations_of}
use Rattle.reason_report.specs.declared.relations.Relation.{Relation}
use Rattle.crm_run.specs.Headline.{HasPlacing, AlwaysHolds, IsBroken, IsTrueReason, IsTrueAnswer}
use Rattle.crm_run.proofs.Contradictions.{no_cycle, placed_none, says_consistent, says_inconsistent}

-- a period is an extent
pub extent_of : (extents : ℕ) (ps : List ℕ) (a : ℕ) → AreExtents extents ps → Contains ps a → a < extents
extent_of extents ps a range h = subst (λ (n : ℕ). n < extents) h.2 (range h.0 a h.1)

-- what is known of every report and of every answer
module _
    (consistent_law : (set : Orders) → IsOrderSet set.list set.extents set.dates → (cycle_of set ≡ None) ↔ IsConsistent set.list set.dates set.extents)
    (listed_law : (set : Orders) (periods : List ℕ) (a : ℕ) (p : Primitive) (b : ℕ) →
    IsOrderSet set.list set.extents set.dates → (HasCycle set.list → ⊥) → AreExtents set.extents periods →
    Contains periods a → Contains periods b → a ≢ b →
    IsListed (relations_of set.list periods) a p b
    ↔ AlwaysStand set.list set.dates set.extents (points_of p a b).0 (points_of p a b).1 (points_of p a b).2)
    (chain_law : (set : Orders) (periods : List ℕ) (r : Relation) → Contains (relations_of set.list periods) r →
    IsChainOf set.list (left_point r.side r.left) (right_point r.side r.right)
    (reason_of set.list (left_point r.side r.left) (right_point r.side r.right)))
    (holds_law : (set : Orders) (a : ℕ) (p : Primitive) (b : ℕ) →
    IsOrderSet set.list set.extents set.dates → (HasCycle set.list → ⊥) → a < set.extents → b < set.extents →
    (is_following set.list a p b ≡ true)
    ↔ AlwaysStand set.list set.dates set.extents (points_of p a b).0 (points_of p a b).1 (points_of p a b).2)
    (satisfied_law : (set : Orders) (a : ℕ) (p : Primitive) (b : ℕ) →
    IsOrderSet set.list set.extents set.dates → (HasCycle set.list → ⊥) → a < set.extents →
    IsSatisfied set.list set.dates (delaying_placing set.list set.extents set.dates (points_of p a b).0))
    (broken_law : (set : Orders) (a : ℕ) (p : Primitive) (b : ℕ) →
    IsOrderSet set.list set.extents set.dates → (HasCycle set.list → ⊥) → a < set.extents → b < set.extents →
    is_following set.list a p b ≡ false →
    Stand (points_of p a b).2
    (position_at set.dates (delaying_placing set.list set.extents set.dates (points_of p a b).0) (points_of p a b).0)
    (position_at set.dates (delaying_placing set.list set.extents set.dates (points_of p a b).0) (points_of p a b).1) → ⊥)
    (set : Orders) (conditions : IsOrderSet set.list set.extents set.dates) where
  not_consistent : (periods cycle : List ℕ) → inconsistent_text cycle ≡ consistent_text set periods → ⊥
  unfolding inconsistent_text
  not_consistent periods cycle e = let n : 105 ≡ 99 = ap (λ (l : List ℕ). get_or l 0 0) e in omega (arith, n)

  module _ (placed : HasPlacing set) (a : ℕ) (p : Primitive) (b : ℕ) (in_a : a < set.extents) (in_b : b < set.extents) where
    following_always : (is_following set.list a p b ≡ true) ↔ AlwaysHolds set a p b
    following_always = holds_law set a p b conditions (no_cycle set placed) in_a in_b

    not_following : (AlwaysHolds set a p b → ⊥) → is_following set.list a p b ≡ false
    not_following never =
        elim (cases_Bool (is_following set.list a p b)) [ inl yea ↦ absurd (never (following_always.0 yea)) | inr nay ↦ nay ]

    breaks_it : (AlwaysHolds set a p b → ⊥) → IsBroken set a p b
    breaks_it never = record {
      satisfied = satisfied_law set a p b conditions (no_cycle set placed) in_a;
      broken = broken_law set a p b conditions (no_cycle set placed) in_a in_b (not_following never);
    }

  pub true_reason : (periods front : List ℕ) → AreExtents set.extents periods → IsTrueReason set periods front (front ++ report_text set periods)
  true_reason periods front range = record {
    inconsistent = says_inconsistent consistent_law set conditions front (λ o. text_by o (consistent_text set periods)) (λ cycle. refl);
    consistent = says_consistent consistent_law set conditions front (λ o. text_by o (consistent_text set periods)) (not_consistent periods);
    listed = λ placed a p b in_a in_b apart. listed_law set periods a p b conditions (no_cycle set placed) range in_a in_b apart;
    chains = λ x h. chain_law set periods x h;
    others = λ placed a p b in_a in_b apart missing.
        breaks_it placed a p b (extent_of set.extents periods a range in_a) (extent_of set.extents periods b range in_b)
        (λ always. missing ((listed_law set periods a p b conditions (no_cycle set placed) range in_a in_b apart).1 always));
  }

  not_both : (p q : Primitive) (chain : List ℕ) (x : Point) → fails_text set q x ≡ holds_text set.list p chain → ⊥
  unfolding fails_text holds_text
  not_both p q chain x e = let n : 102 ≡ 104 = ap (λ (l : List ℕ). get_or l 0 0) e in omega (arith, n)

  abbrev Held : ℕ → Primitive → ℕ → List ℕ
  Held a p b = holds_text set.list p (reason_of set.list (points_of p a b).0 (points_of p a b).1)

  abbrev Failed : ℕ → Primitive → ℕ → List ℕ
  Failed a p b = fails_text set p (points_of p a b).0

  module _ (placed : HasPlacing set) (a : ℕ) (p : Primitive) (b : ℕ) (front : List ℕ) (in_a : a < set.extents) (in_b : b < set.extents) where
    verdict : (f : Bool) → is_following set.list a p b ≡ f → front ++ answer_text set a p b ≡ front ++ (if f then Held a p b else Failed a p b)
    verdict f e =
        ap (λ (o : Option (List ℕ)). front ++ text_by o (verdict_text set a p b)) (placed_none consistent_law set conditions placed)
        ∙ ap (λ (g : Bool). front ++ (if g then Held a p b else Failed a p b)) e

    says_holds : (front ++ answer_text set a p b ≡ front ++ Held a p b) ↔ AlwaysHolds set a p b
    says_holds =
        let law = following_always placed a p b in_a in_b in
        elim (cases_Bool (is_following set.list a p b)) [
          | inl yea ↦ (λ e. law.0 yea, λ always. verdict true yea)
          | inr nay ↦ (
            λ e. absurd (not_both p p (reason_of set.list (points_of p a b).0 (points_of p a b).1) (points_of p a b).0
                (append_cancel_left front (Failed a p b) (Held a p b) (sym (verdict false nay) ∙ e))),
            λ always. absurd (true≢false (sym (law.1 always) ∙ nay)),
          )
        ]

    says_fails : (front ++ answer_text set a p b ≡ front ++ Failed a p b) ↔ (AlwaysHolds set a p b → ⊥)
    says_fails =
        let law = following_always placed a p b in_a in_b in
        elim (cases_Bool (is_following set.list a p b)) [
          | inl yea ↦ (
            λ e. absurd (not_both p p (reason_of set.list (points_of p a b).0 (points_of p a b).1) (points_of p a b).0
                (sym (append_cancel_left front (Held a p b) (Failed a p b) (sym (verdict true yea) ∙ e)))),
            λ never. absurd (never (law.0 yea)),
          )
          | inr nay ↦ (λ e. λ always. true≢false (sym (law.1 always) ∙ nay), λ never. verdict false nay)
        ]

  pub true_answer : (a : ℕ) (p : Primitive) (b : ℕ) (front : List ℕ) → a < set.extents → b < set.extents → IsTrueAnswer set a p b front (front ++ answer_text set a p b)
  true_answer a p b front in_a in_b = record {
    inconsistent = says_inconsistent consistent_law set conditions front (λ o. text_by o (verdict_text set a p b)) (λ cycle. refl);
    holds = λ placed. says_holds placed a p b front in_a in_b;
    fails = λ placed. says_fails placed a p b front in_a in_b;
    broken = λ placed never. breaks_it placed a p b in_a in_b never;
  }
