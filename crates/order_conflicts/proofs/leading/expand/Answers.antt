use Rattle.std.proofs.Common.{◌<◌, ◌≡◌, ◌+◌, ◌∙◌, ℕ, length, arith, sym, subst, ap}
use Rattle.order_laws.specs.Points.{number_of}
use Rattle.order_closure.specs.Edges.{low_at}
use Rattle.chain_certificate.specs.Routes.{points_of}
use Rattle.order_conflicts.specs.Found.{IsExpanding}
use Rattle.order_conflicts.specs.Paths.{low_of}
use Rattle.order_conflicts.proofs.Searching.{expand_none, expand_more, next_of_set}
use Rattle.order_conflicts.proofs.leading.expand.Goals as goal

pub loop-n-init : goal.loop-n-init
loop-n-init g c =
    let set = c.args.set.now in
    let edges = c.args.edges.now in
    let point : c.args.point ≡ number_of edges.extents c.point_at.result =
    sym (ap (λ (e : ℕ). number_of e c.point_at.result) (c.requires.edges.extents ∙ sym c.extents.ensures) ∙ c.point_at.ensures.number) in
    expand_none set c.args.triple (points_of set) c.args.point c.at-walk.result c.args.found.now c.requires.size
    (next_of_set set edges c.requires.edges (number_of edges.extents c.point_at.result) c.args.point 0 c.at-walk.result point c.at-walk.ensures.first)

pub loop-n-preserved : goal.loop-n-preserved
loop-n-preserved g c =
    let set = c.args.set.now in
    let edges = c.args.edges.now in
    let n : ℕ = c.in-Some.n in
    let found = c.in-Some.ensures.found in
    let below : n < length set.list = omega (arith, found.1, c.requires.edges.count) in
    let P : ℕ → Type 0 = λ k. IsExpanding set c.args.triple (points_of set) c.args.point c.args.found.now c.loop-n.found k in
    expand_more set c.args.triple (points_of set) c.args.point n c.next.new.self c.args.found.now c.loop-n.found c.take.new.found
    (subst P (sym found.0) c.loop-n.invariant) below
    (next_of_set set edges c.requires.edges (low_at edges n) (low_of set n) (n + 1) c.next.new.self (sym (c.requires.edges.low n below)) found.2)
    c.in_ok-take.ensures.grows c.in_ok-take.ensures.size c.in_ok-take.ensures.seen c.in_ok-take.ensures.room c.in_ok-take.ensures.found

pub returns : goal.returns
returns g c =
    let set = c.args.set.now in
    let P : ℕ → Type 0 = λ k. IsExpanding set c.args.triple (points_of set) c.args.point c.args.found.now c.loop-n.found k in
    subst P (c.in_default.ensures.ended.0 ∙ c.requires.edges.count) c.loop-n.invariant
