use Rattle.std.proofs.Common.{List, [], ◌∷◌, ◌++◌, length, map, take, arith, sym, ap, ◌∙◌}
use Rattle.order_laws.specs.declared.Order.{Order}
use Rattle.dating_bounds.specs.Dated.{renamed}
use Rattle.dating_bounds.proofs.Renaming.{renamed_more}
use Rattle.dating_bounds.proofs.dates.renamed_orders.Goals as goal

pub loop-n-preserved : goal.loop-n-preserved
loop-n-preserved c =
    c.in_ok-push.ensures.items
    ∙ ap (λ (os : List Order). os ++ c.renamed.result ∷ []) c.loop-n.invariant
    ∙ ap (λ (o : Order). map (renamed c.args.place) (take c.loop-n.n c.args.set.now.list) ++ o ∷ []) c.renamed.ensures
    ∙ sym (renamed_more c.args.place c.args.set.now.list c.loop-n.n (omega (arith, c.len-count.ensures, ap (λ (os : List Order). length os) c.orders.ensures)))
