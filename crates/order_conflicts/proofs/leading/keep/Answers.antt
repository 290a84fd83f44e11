use Rattle.std.specs.Prelude.{Result, Ok, Err, OnOk}
use Rattle.order_conflicts.proofs.Searching.{kept_found}
use Rattle.order_conflicts.proofs.leading.keep.Goals as goal

on_ok : {T E : Type 0} (r : Result T E) (A B C : Type 0) → (A → B → C) → OnOk r A → OnOk r B → OnOk r C
on_ok (Ok x) A B C f a b = f a b
on_ok (Err e) A B C f a b = tt

pub returns-clause-found : goal.returns-clause-found
returns-clause-found c =
    on_ok c.add.result _ _ _ (λ seen reached set t points from f leads.
    kept_found c.args.found.now c.add.new.found c.args.point c.requires seen reached set t points from f leads) c.add.ensures.seen c.add.ensures.reached
