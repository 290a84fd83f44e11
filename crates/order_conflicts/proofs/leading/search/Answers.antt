use Rattle.std.proofs.Common.{◌<◌, ◌≡◌, ℕ, length, arith, refl, subst}
use Rattle.std.proofs.lemmas.List.{get_or_read_under}
use Rattle.chain_certificate.specs.Routes.{points_of}
use Rattle.order_conflicts.specs.Found.{IsExpanding, IsSearching, reached_at}
use Rattle.order_conflicts.proofs.Searching.{search_more}
use Rattle.order_conflicts.proofs.leading.search.Goals as goal

pub loop-at-init : goal.loop-at-init
loop-at-init g c = c.in_ok-found.ensures c.args.triple

pub loop-at-preserved : goal.loop-at-preserved
loop-at-preserved g c =
    let below : c.loop-at.at < length c.loop-at.found.reached.items = omega (arith, c.len.ensures, c.loop-at-test.true) in
    let here : c.index-point.result.now ≡ reached_at c.loop-at.found c.loop-at.at =
    get_or_read_under c.loop-at.found.reached.items c.loop-at.at (length c.loop-at.found.reached.items) c.index-point.result.now 0 c.index-point.ensures below refl in
    let P : ℕ → Type 0 = λ p. IsExpanding c.args.set.now c.args.triple (points_of c.args.set.now) p c.loop-at.found c.expand.new.found (length c.args.set.now.list) in
    search_more c.args.set.now c.args.triple (points_of c.args.set.now) c.args.from c.loop-at.found c.expand.new.found c.loop-at.at c.loop-at.invariant
    below (subst P here c.in_ok-expand.ensures)

pub loop-at-smaller : goal.loop-at-smaller
loop-at-smaller g c = omega (arith, c.in_ok-expand.ensures.smaller, c.len.ensures, c.loop-at-test.true)

pub returns : goal.returns
returns g c =
    let P : ℕ → Type 0 = λ k. IsSearching c.args.set.now c.args.triple (points_of c.args.set.now) c.args.from c.loop-at.found k in
    let done : c.loop-at.at ≡ length c.loop-at.found.reached.items = omega (arith, c.loop-at.invariant.within, c.len.ensures, c.loop-at-test.false) in
    subst P done c.loop-at.invariant
