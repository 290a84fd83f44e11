use Rattle.std.proofs.Common.{ℕ, sym, subst}
use Rattle.std.specs.Prelude.{Result, Ok, Err, OnOk}
use Rattle.chain_certificate.specs.Routes.{points_of}
use Rattle.order_conflicts.specs.Paths.{Leads}
use Rattle.order_conflicts.proofs.Searching.{leads_on}
use Rattle.order_conflicts.proofs.leading.step.Goals as goal

on_ok : {T E : Type 0} (r : Result T E) (A B : Type 0) → (A → B) → OnOk r A → OnOk r B
on_ok (Ok x) A B f a = f a
on_ok (Err e) A B f a = tt

pub returns-clause-found : goal.returns-clause-found
returns-clause-found c =
    let P : ℕ → ℕ → Type 0 = λ from z. Leads c.args.set.now c.args.triple from z in
    on_ok c.keep.result _ _ (λ f from found leads.
    f c.args.set.now c.args.triple (points_of c.args.set.now) from found
    (subst (P from) (sym c.ends_of-ends.ensures.high) (leads_on c.args.set.now c.args.triple from c.args.n c.requires.kept leads))) c.keep.ensures.found
