use Rattle.std.proofs.Common.{◌≡◌, List, length, ap, sym, subst}
use Rattle.triple_pool.specs.declared.Ends.{Ends}
use Rattle.triple_pool.specs.declared.Slot.{Slot}
use Rattle.triple_pool.specs.declared.Place.TheVariants.{Object}
use Rattle.triple_pool.specs.Pool.{Numbered, numbers_with}
use Rattle.triple_pool.specs.Chains.{is_at, listed_at}
use Rattle.triple_pool.specs.Tables.{ends_in}
use Rattle.triple_pool.proofs.Listing.{numbered_pairs}
use Rattle.triple_pool.proofs.Pooling.{walk_begun}
use Rattle.triple_pool.proofs.pool.TriplePool.by_object.Goals as goal

pub returns-clause-numbers : goal.returns-clause-numbers
returns-clause-numbers c =
    subst (λ (xs : List Slot). listed_at (is_at Object c.args.t xs) (length xs) c.ends_of-first.result.first ≡ numbers_with Object c.args.t c.args.self.now.pairs)
    (sym c.as_slice.ensures.value)
    (walk_begun Object c.self.inside.slots.items (ends_in c.self.inside.objects) c.args.t c.ends_of-first.result.first c.args.self.now.pairs
    c.self.invariant.stored.object.ended (ap (λ (e : Ends). e.first) c.ends_of-first.ensures) (ap (λ (v : Numbered). v.pairs) c.self.view_is))

pub returns-clause-ascending : goal.returns-clause-ascending
returns-clause-ascending c = numbered_pairs c.self.inside.slots.items c.args.self.now.pairs (ap (λ (v : Numbered). v.pairs) c.self.view_is)
