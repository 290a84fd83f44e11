-- The truth values of the open relations.
use Rattle.std.proofs.Common.{◌≡◌, ℕ, Bool, true, false, List, refl, ◌∙◌}
use Rattle.std.specs.Prelude.{◌&&◌, not}
use Rattle.std.specs.List.{filter}
use Rattle.order_laws.specs.declared.Order.{Order}
use Rattle.order_laws.specs.declared.Point.{Point}
use Rattle.order_laws.specs.Closure.{reach_between}
use Rattle.order_laws.specs.Tables.{is_strict}
use Rattle.crm_allen.specs.declared.relations.Allen.{Allen}
use Rattle.crm_allen.specs.declared.relations.Allen.TheVariants.{Before, Meets, Overlaps, Finished, Contains, Starts, Equal, Started, During, Finishes, Overlapped, Met, After}
use Rattle.crm_allen.specs.Names.{all_relations}
use Rattle.crm_allen.specs.Possible.{may_be_at, is_open, possible_relations, truth_of}
use Rattle.crm_allen.proofs.Listed.{filter_same}

pub both : {p q r s : Bool} → p ≡ r → q ≡ s → (p && q) ≡ (r && s)
both e f = cc

pub all_three : {p q r s t u : Bool} → p ≡ s → q ≡ t → r ≡ u → ((p && q) && r) ≡ ((s && t) && u)
all_three e f g = cc

and_turned : (p q : Bool) → (p && q) ≡ (q && p)
and_turned true true = refl
and_turned true false = refl
and_turned false true = refl
and_turned false false = refl

-- to be at one point is the same from both sides
pub turned : (orders : List Order) (x y : Point) (p : Bool) → p ≡ may_be_at orders x y → p ≡ may_be_at orders y x
turned orders x y p e = e ∙ and_turned (not (is_strict (reach_between orders x y))) (not (is_strict (reach_between orders y x)))

module _ (orders : List Order) (a b : ℕ) (before meets overlaps finished contains starts equal started during finishes overlapped met after : Bool)
    (e1 : before ≡ is_open orders a b Before) (e2 : meets ≡ is_open orders a b Meets) (e3 : overlaps ≡ is_open orders a b Overlaps)
    (e4 : finished ≡ is_open orders a b Finished) (e5 : contains ≡ is_open orders a b Contains) (e6 : starts ≡ is_open orders a b Starts)
    (e7 : equal ≡ is_open orders a b Equal) (e8 : started ≡ is_open orders a b Started) (e9 : during ≡ is_open orders a b During)
    (e10 : finishes ≡ is_open orders a b Finishes) (e11 : overlapped ≡ is_open orders a b Overlapped) (e12 : met ≡ is_open orders a b Met)
    (e13 : after ≡ is_open orders a b After) where
  each : (r : Allen) → truth_of before meets overlaps finished contains starts equal started during finishes overlapped met after r ≡ is_open orders a b r
  each Before = e1
  each Meets = e2
  each Overlaps = e3
  each Finished = e4
  each Contains = e5
  each Starts = e6
  each Equal = e7
  each Started = e8
  each During = e9
  each Finishes = e10
  each Overlapped = e11
  each Met = e12
  each After = e13

  pub opened : filter (truth_of before meets overlaps finished contains starts equal started during finishes overlapped met after) all_relations ≡ possible_relations orders a b
  opened = filter_same (truth_of before meets overlaps finished contains starts equal started during finishes overlapped met after) (is_open orders a b) each all_relations
