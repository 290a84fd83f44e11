use Rattle.std.proofs.Common.{subst, sym, List}
use Rattle.std.specs.List.{Contains}
use Rattle.order_laws.specs.Placings.{IsSatisfied}
use Rattle.crm_allen.specs.declared.relations.Allen.{Allen}
use Rattle.crm_allen.specs.Possible.{is_open}
use Rattle.crm_allen.specs.Relations.{relation_orders}
use Rattle.crm_allen.proofs.Listed.{listed}
use Rattle.crm_allen.proofs.Relating.{placed_open}
use Rattle.crm_allen.proofs.Standing.{standing, only}
use Rattle.crm_allen.proofs.laws.single_relations_hold.Goals as goal

pub returns : goal.returns
returns c = λ set a b r is_set acyclic in_a in_b one placing size sat.
    let s = standing set.extents set.dates placing a b in
    let among = (listed (is_open set.list a b) s.relation).0 (placed_open set.extents set.dates set.list placing size sat s.relation a b s.has) in
    subst (λ (q : Allen). IsSatisfied (relation_orders q a b) set.dates placing) (sym (only r s.relation (subst (λ (rs : List Allen). Contains rs s.relation) one among))) s.has
