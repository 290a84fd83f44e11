use Rattle.std.specs.Prelude.{◌++◌, length}
use Rattle.order_laws.proofs.Hold.{cycle_refutes}
use Rattle.order_laws.proofs.Placed.{plain_satisfies}
use Rattle.order_extension.proofs.Further.{further_is_set, satisfied_both}
use Rattle.crm_allen.specs.Relations.{relation_orders, example_placing}
use Rattle.crm_allen.proofs.InRange.{relation_in_range}
use Rattle.crm_allen.proofs.laws.examples_have_their_relations.Goals as goal

pub returns : goal.returns
returns c = λ set a b r is_set in_a in_b p.
    (satisfied_both set.dates (example_placing set a b r) set.list (relation_orders r a b)).0
    (plain_satisfies (set.list ++ relation_orders r a b) set.extents set.dates
    (further_is_set set.extents set.dates set.list (relation_orders r a b) is_set.orders (relation_in_range set.extents (length set.dates) r a b in_a in_b))
    (λ cycle. cycle_refutes (set.list ++ relation_orders r a b) set.dates set.extents cycle p))
