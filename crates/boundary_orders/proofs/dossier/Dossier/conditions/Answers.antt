use Rattle.std.proofs.Common.{subst}
use Rattle.boundary_orders.specs.Dossiers.{Findings, IsWhole}
use Rattle.boundary_orders.proofs.Counted.{whole}
use Rattle.boundary_orders.proofs.dossier.Dossier.conditions.Goals as goal

pub returns : goal.returns
returns c = subst (λ (f : Findings). IsWhole f) c.self.view_is (whole c.self.inside.extents.entries c.self.inside.periods c.self.inside.orders c.self.invariant)
