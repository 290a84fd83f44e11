use Rattle.std.proofs.Common.{◌<◌, ◌*◌, ◌+◌, List, length, get_or, arith, ap, sym, subst, ◌∙◌}
use Rattle.order_laws.specs.declared.Point.{Point}
use Rattle.order_laws.specs.declared.Position.{Position}
use Rattle.order_laws.specs.Closure.{reach_between}
use Rattle.order_laws.specs.Placings.{no_position}
use Rattle.order_laws.specs.Tables.{built_at}
use Rattle.order_core.specs.Sets.{Orders}
use Rattle.dating_bounds.specs.Around.{IsBoundary}
use Rattle.dating_bounds.specs.Pushed.{AreShares}
use Rattle.dating_bounds.proofs.RowsSay.{plain_size, plain_start, plain_end}
use Rattle.dating_bounds.proofs.pushes.Shares.plain_at.Goals as goal

pub bounds-positions-k : goal.bounds-positions-k
bounds-positions-k c =
    let shares : AreShares c.args.self.now c.self.inside.closure.now c.self.inside.columns c.self.inside.plain =
    subst (λ (s : Orders). AreShares s c.self.inside.closure.now c.self.inside.columns c.self.inside.plain) c.self.view_is c.self.invariant in
    let inside : c.in-Start.k < c.args.self.now.extents = subst (IsBoundary c.args.self.now.extents) c.in-Start.is c.requires in
    omega (arith, inside, ap (λ (ps : List Position). length ps) c.as_slice-positions.ensures, plain_size c.args.self.now c.self.inside.closure.now c.self.inside.columns c.self.inside.plain shares)

pub bounds-positions-k-in-End : goal.bounds-positions-k-in-End
bounds-positions-k-in-End c =
    let shares : AreShares c.args.self.now c.self.inside.closure.now c.self.inside.columns c.self.inside.plain =
    subst (λ (s : Orders). AreShares s c.self.inside.closure.now c.self.inside.columns c.self.inside.plain) c.self.view_is c.self.invariant in
    let inside : c.in-End.k < c.args.self.now.extents = subst (IsBoundary c.args.self.now.extents) c.in-End.is c.requires in
    omega (arith, inside, ap (λ (ps : List Position). length ps) c.as_slice-positions.ensures, plain_size c.args.self.now c.self.inside.closure.now c.self.inside.columns c.self.inside.plain shares)

pub returns-in-Start : goal.returns-in-Start
returns-in-Start c =
    let shares : AreShares c.args.self.now c.self.inside.closure.now c.self.inside.columns c.self.inside.plain =
    subst (λ (s : Orders). AreShares s c.self.inside.closure.now c.self.inside.columns c.self.inside.plain) c.self.view_is c.self.invariant in
    let inside : c.in-Start.k < c.args.self.now.extents = subst (IsBoundary c.args.self.now.extents) c.in-Start.is c.requires in
    ap {B = Position} (λ (ps : List Position). get_or ps (2 * c.in-Start.k) no_position) c.as_slice-positions.ensures
    ∙ plain_start c.args.self.now c.self.inside.closure.now c.self.inside.columns c.self.inside.plain shares c.in-Start.k inside
    ∙ ap {B = Position} (λ (p : Point). built_at c.args.self.now.extents c.args.self.now.dates (reach_between c.args.self.now.list) p) (sym c.in-Start.is)

pub returns-in-End : goal.returns-in-End
returns-in-End c =
    let shares : AreShares c.args.self.now c.self.inside.closure.now c.self.inside.columns c.self.inside.plain =
    subst (λ (s : Orders). AreShares s c.self.inside.closure.now c.self.inside.columns c.self.inside.plain) c.self.view_is c.self.invariant in
    let inside : c.in-End.k < c.args.self.now.extents = subst (IsBoundary c.args.self.now.extents) c.in-End.is c.requires in
    ap {B = Position} (λ (ps : List Position). get_or ps (2 * c.in-End.k + 1) no_position) c.as_slice-positions.ensures
    ∙ plain_end c.args.self.now c.self.inside.closure.now c.self.inside.columns c.self.inside.plain shares c.in-End.k inside
    ∙ ap {B = Position} (λ (p : Point). built_at c.args.self.now.extents c.args.self.now.dates (reach_between c.args.self.now.list) p) (sym c.in-End.is)
