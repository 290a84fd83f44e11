-- What is said of Allen's relations is true of every placing.
use Rattle.std.proofs.Common.{◌≡◌, ℕ, ◌<◌, List, [], ◌∷◌, ◌++◌, length, get_or, None, Option, refl, sym, ap, subst, arith}
use Rattle.std.specs.Prelude.{◌↔◌}
use Rattle.std.specs.List.{Contains}
use Rattle.order_laws.specs.Placings.{IsConsistent, IsSatisfied}
use Rattle.order_laws.specs.Tables.{IsOrderSet}
use Rattle.order_laws.proofs.Hold.{cycle_refutes}
use Rattle.order_laws.proofs.Placed.{plain_satisfies}
use Rattle.order_core.specs.Sets.{Orders, AreExtents}
use Rattle.order_analysis.specs.Subjects.{cycle_of}
use Rattle.order_extension.proofs.Further.{further_is_set, satisfied_both}
use Rattle.reason_report.specs.Reason.{inconsistent_text}
use Rattle.crm_allen.specs.declared.relations.Allen.{Allen}
use Rattle.crm_allen.specs.Possible.{is_open, possible_relations}
use Rattle.crm_allen.specs.Relations.{IsPossible, example_placing, relation_orders}
use Rattle.crm_allen.proofs.InRange.{relation_in_range}
use Rattle.crm_allen.proofs.Listed.{listed}
use Rattle.crm_allen.proofs.Relating.{open_possible, placed_open}
use Rattle.crm_allen.proofs.Standing.{only, standing}
use Rattle.allen_reports.specs.Relations.{examples_text}
use Rattle.allen_reports.specs.Reports.{consistent_text, text_by}
use Rattle.crm_run.specs.Headline.{AlwaysRelated, HasPlacing, IsExample, IsTrueList, IsTrueRow, IsTrueTable}
use Rattle.crm_run.proofs.Contradictions.{no_cycle, placed_none, says_consistent, says_inconsistent}
use Rattle.crm_run.proofs.Truths.{extent_of}

module _ (consistent_law : (set : Orders) → IsOrderSet set.list set.extents set.dates → (cycle_of set ≡ None) ↔ IsConsistent set.list set.dates set.extents)
    (set : Orders) (conditions : IsOrderSet set.list set.extents set.dates) where
  -- a placing has some relation of two extents
  always : (a b : ℕ) (r : Allen) → possible_relations set.list a b ≡ r ∷ [] → AlwaysRelated set a b r
  always a b r one placing size sat =
      let s = standing set.extents set.dates placing a b in
      let among = (listed (is_open set.list a b) s.relation).0 (placed_open set.extents set.dates set.list placing size sat s.relation a b s.has) in
      subst (λ (q : Allen). IsSatisfied (relation_orders q a b) set.dates placing) (sym (only r s.relation (subst (λ (rs : List Allen). Contains rs s.relation) one among))) s.has

  module _ (placed : HasPlacing set) (a b : ℕ) (in_a : a < set.extents) (in_b : b < set.extents) where
    possible : (r : Allen) → Contains (possible_relations set.list a b) r → IsPossible set a b r
    possible r among =
        open_possible set.extents set.dates set.list (record { set = conditions; acyclic = no_cycle set placed }) r a b in_a in_b ((listed (is_open set.list a b) r).1 among)

    among : (r : Allen) → IsPossible set a b r → Contains (possible_relations set.list a b) r
    among r p =
        let both = (satisfied_both set.dates p.0 set.list (relation_orders r a b)).0 p.1.1 in
        (listed (is_open set.list a b) r).0 (placed_open set.extents set.dates set.list p.0 p.1.0 both.0 r a b both.1)

    row : IsTrueRow set a b
    row = record { possible = λ r. (possible r, among r); single = always a b }

    example : (r : Allen) → Contains (possible_relations set.list a b) r → IsExample set a b r
    example r listed =
        let both = (satisfied_both set.dates (example_placing set a b r) set.list (relation_orders r a b)).0
        (plain_satisfies (set.list ++ relation_orders r a b) set.extents set.dates
        (further_is_set set.extents set.dates set.list (relation_orders r a b) conditions (relation_in_range set.extents (length set.dates) r a b in_a in_b))
        (λ cycle. cycle_refutes (set.list ++ relation_orders r a b) set.dates set.extents cycle (possible r listed))) in
        record { satisfied = both.0; related = both.1 }

  not_table : (periods cycle : List ℕ) → inconsistent_text cycle ≡ consistent_text set periods → ⊥
  unfolding inconsistent_text
  not_table periods cycle e = let n : 105 ≡ 99 = ap (λ (l : List ℕ). get_or l 0 0) e in omega (arith, n)

  pub true_table : (periods front : List ℕ) → AreExtents set.extents periods → IsTrueTable set periods front (front ++ text_by (cycle_of set) (consistent_text set periods))
  true_table periods front range = record {
    inconsistent = says_inconsistent consistent_law set conditions front (λ o. text_by o (consistent_text set periods)) (λ cycle. refl);
    consistent = says_consistent consistent_law set conditions front (λ o. text_by o (consistent_text set periods)) (not_table periods);
    rows = λ placed a b in_a in_b. row placed a b (extent_of set.extents periods a range in_a) (extent_of set.extents periods b range in_b);
  }

  pub true_list : (a b : ℕ) (front : List ℕ) → a < set.extents → b < set.extents → IsTrueList set a b front (front ++ text_by (cycle_of set) (examples_text set a b))
  true_list a b front in_a in_b = record {
    inconsistent = says_inconsistent consistent_law set conditions front (λ o. text_by o (examples_text set a b)) (λ cycle. refl);
    listed = λ placed. ap (λ (o : Option (List ℕ)). front ++ text_by o (examples_text set a b)) (placed_none consistent_law set conditions placed);
    row = λ placed. row placed a b in_a in_b;
    examples = λ placed. example placed a b in_a in_b;
  }
