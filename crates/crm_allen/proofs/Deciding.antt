-- The relations that are listed as possible are those that some placing has.
use Rattle.std.proofs.Common.{◌≡◌, true, ◌<◌, ℕ}
use Rattle.std.specs.List.{Contains}
use Rattle.order_laws.specs.Chains.{HasCycle}
use Rattle.order_core.specs.Sets.{Orders, IsSet}
use Rattle.order_extension.proofs.Further.{satisfied_both}
use Rattle.crm_allen.specs.declared.relations.Allen.{Allen}
use Rattle.crm_allen.specs.Names.{is_among}
use Rattle.crm_allen.specs.Possible.{is_open, possible_relations}
use Rattle.crm_allen.specs.Relations.{IsPossible, relation_orders}
use Rattle.crm_allen.proofs.Listed.{listed, listed_among}
use Rattle.crm_allen.proofs.Relating.{open_possible, placed_open}

module _ (set : Orders) (a b : ℕ) (is_set : IsSet set.extents set.dates set.list) (acyclic : HasCycle set.list → ⊥) (in_a : a < set.extents) (in_b : b < set.extents) where
  pub possible_where_listed : (r : Allen) → Contains (possible_relations set.list a b) r → IsPossible set a b r
  possible_where_listed r among =
      open_possible set.extents set.dates set.list (record { set = is_set.orders; acyclic = acyclic }) r a b in_a in_b ((listed (is_open set.list a b) r).1 among)

  pub listed_where_possible : (r : Allen) → IsPossible set a b r → Contains (possible_relations set.list a b) r
  listed_where_possible r p =
      let both = (satisfied_both set.dates p.0 set.list (relation_orders r a b)).0 p.1.1 in
      (listed (is_open set.list a b) r).0 (placed_open set.extents set.dates set.list p.0 p.1.0 both.0 r a b both.1)

  pub possible_where_among : (r : Allen) → is_among (possible_relations set.list a b) r ≡ true → IsPossible set a b r
  possible_where_among r h = possible_where_listed r (listed_among (is_open set.list a b) r h)
