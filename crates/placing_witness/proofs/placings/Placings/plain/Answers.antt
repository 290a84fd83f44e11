use Rattle.std.proofs.Common.{◌≡◌, ◌∙◌, subst}
use Rattle.order_laws.specs.Wider.{plain_placing}
use Rattle.order_core.specs.Sets.{Orders}
use Rattle.placing_witness.proofs.Final.{plain_is}
use Rattle.placing_witness.proofs.placings.Placings.plain.Goals as goal

pub returns : goal.returns
returns c =
    let P : Orders → Type 0 = λ s. c.from_vec.result ≡ plain_placing s.list s.extents s.dates in
    let b = c.self.invariant.base in
    subst P c.self.view_is
    (c.from_vec.ensures ∙ c.in_ok-from_slice.ensures.items ∙ c.deref.ensures.value
    ∙ plain_is c.self.inside.set.now c.self.inside.closure.now b.closed b.consistent c.self.inside.base.points.items c.self.inside.base.positions.items b.listed b.placed)
