use Rattle.order_conflicts.proofs.Rings.{is_cycle, cycle_listed, is_first, is_once}
use Rattle.order_conflicts.proofs.laws.cycles_of_tangles_are_first.Goals as goal

pub returns : goal.returns
returns c = record {
  cycle = λ set x s least. (is_cycle set s x least, cycle_listed set s x least);
  first = λ set x y ns s least tied chain shows. is_first set s x least y ns tied chain shows;
  once = λ set x i j s least less below e. is_once set s x least i j less below e;
}
