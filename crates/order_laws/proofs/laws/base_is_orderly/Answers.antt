use Rattle.std.proofs.Common.{length}
use Rattle.order_laws.proofs.Base.{base_orderly}
use Rattle.order_laws.proofs.laws.base_is_orderly.Goals as goal

pub returns : goal.returns
returns c = λ orders extents dates table set no_cycle base. base_orderly orders extents (length dates) table set.low_in_range set.high_in_range no_cycle base
