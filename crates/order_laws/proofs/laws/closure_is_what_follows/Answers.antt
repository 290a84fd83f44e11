use Rattle.std.proofs.Common.{true, false, ap}
use Rattle.order_laws.specs.Tables.{is_strict}
use Rattle.order_laws.proofs.Closure.{entry_follows, follows_entry, strict_is}
use Rattle.order_laws.proofs.laws.closure_is_what_follows.Goals as goal

pub returns : goal.returns
returns c = record {
  strictly = λ orders x y. (λ e. entry_follows orders x y true (ap is_strict e), λ f. strict_is _ (follows_entry orders x y true f));
  known = λ orders x y. (λ e. entry_follows orders x y false e, λ f. follows_entry orders x y false f);
}
