use Rattle.std.proofs.Common.{◌≡◌, ◌∙◌, ◌*◌, ℕ, List, IfOk, length, map, arith, ap, sym, subst}
use Rattle.order_laws.specs.declared.Reach.{Reach}
use Rattle.order_laws.specs.Wider.{delaying_placing}
use Rattle.order_core.specs.Sets.{Orders}
use Rattle.order_closure.specs.Closures.{between}
use Rattle.placing_witness.specs.Prepared.{IsBehind}
use Rattle.placing_witness.proofs.Final.{boundaries_in, lower_size, positions_size}
use Rattle.placing_witness.proofs.Sharing.{shared_behind}
use Rattle.placing_witness.proofs.placings.Placings.delaying.Goals as goal

pub shared_counts-requires-clause-lower : goal.shared_counts-requires-clause-lower
shared_counts-requires-clause-lower c =
    ap length c.deref-3.ensures.value
    ∙ lower_size c.self.inside.set.now c.self.inside.closure.now c.self.inside.base.points.items c.self.inside.base.floors.items c.self.inside.words c.self.inside.lower.items c.self.inside.base.positions.items c.self.invariant
    ∙ ap (λ k. k * c.self.inside.words) (omega (arith, c.len.ensures))

pub delay_from-requires-clause-behind : goal.delay_from-requires-clause-behind
delay_from-requires-clause-behind c =
    let set = c.self.inside.set.now in
    let points = c.self.inside.base.points.items in
    let P : List Reach → Type 0 = λ r. IsBehind (between c.self.inside.closure.now) points r c.in_ok-counts.counts.items in
    let Q : List ℕ → Type 0 = λ ks. IsBehind (between c.self.inside.closure.now) points c.deref-4.result.now ks in
    let size = positions_size set c.self.inside.closure.now points c.self.inside.base.floors.items c.self.inside.base.positions.items c.self.invariant.base in
    let behind : P c.deref-2.result.now =
    shared_behind (between c.self.inside.closure.now) points c.self.inside.words (2 * set.extents) c.args.x c.deref-2.result.now c.deref-3.result.now c.in_ok-counts.counts.items
    c.self.invariant.enough (boundaries_in set points c.self.invariant.base.listed) (omega (arith, c.in_ok-counts.ensures.size, c.len.ensures, size))
    (c.deref-2.ensures.value ∙ c.in_ok-row.ensures ∙ ap (map (λ q. between c.self.inside.closure.now c.args.x q)) c.deref.ensures.value)
    (c.deref-3.ensures.value ∙ c.self.invariant.lowered) (λ n h. c.in_ok-counts.ensures.shared n (omega (arith, h, c.len.ensures, size))) in
    subst Q (sym c.deref-5.ensures.value) (subst P (c.deref-2.ensures.value ∙ sym c.deref-4.ensures.value) behind)

pub returns : goal.returns
returns c =
    let P : Orders → Type 0 = λ s. IfOk c.delay_from.result (λ p. p ≡ delaying_placing s.list s.extents s.dates c.args.x) in
    subst P c.self.view_is c.delay_from.ensures
