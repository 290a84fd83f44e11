use Rattle.crm_allen.proofs.Deciding.{possible_where_listed, listed_where_possible}
use Rattle.crm_allen.proofs.laws.possible_relations_have_placings.Goals as goal

pub returns : goal.returns
returns c = λ set a b r is_set acyclic in_a in_b. (possible_where_listed set a b is_set acyclic in_a in_b r, listed_where_possible set a b is_set acyclic in_a in_b r)
