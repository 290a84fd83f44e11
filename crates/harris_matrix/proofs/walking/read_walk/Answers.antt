use Rattle.std.proofs.Common.{arith, ◌≡◌, ◌+◌, ◌-◌, ℕ, List, subst, sym}
use Rattle.harris_matrix.specs.Walks.{pair_at}
use Rattle.harris_matrix.proofs.Reading.{IsRead, read_more, step_found, read_ends}
use Rattle.harris_matrix.proofs.walking.read_walk.Goals as goal

pub returns-in-None : goal.returns-in-None
returns-in-None c = λ target dist.
    (let left : ℕ = c.loop-left.left - 1 in
    let back : c.loop-left.left ≡ left + 1 = omega (arith, c.loop-left-test.true) in
    let P : ℕ → Type 0 = λ n. IsRead c.args.count c.args.pairs.now c.args.lengths.now c.args.i c.args.size c.loop-left.at n c.loop-left.walk in
    absurd (step_found c.args.count c.args.pairs.now c.args.starts.now c.requires.starts c.args.lengths.now c.args.i c.args.size c.loop-left.at left target c.loop-left.walk
    dist (subst P back c.loop-left.invariant) c.in-None.ensures))

pub loop-left-preserved : goal.loop-left-preserved
loop-left-preserved c =
    let left : ℕ = c.loop-left.left - 1 in
    let back : c.loop-left.left ≡ left + 1 = omega (arith, c.loop-left-test.true) in
    let P : ℕ → Type 0 = λ n. IsRead c.args.count c.args.pairs.now c.args.lengths.now c.args.i c.args.size c.loop-left.at n c.loop-left.walk in
    let Q : List ℕ → Type 0 = IsRead c.args.count c.args.pairs.now c.args.lengths.now c.args.i c.args.size (pair_at c.args.pairs.now c.in-Some.c).second left in
    subst Q (sym c.in_ok-push-in-Some.ensures.ok)
    (read_more c.args.count c.args.pairs.now c.args.starts.now c.requires.starts c.args.lengths.now c.args.i c.args.size c.loop-left.at left c.loop-left.walk c.in-Some.c
    (subst P back c.loop-left.invariant) c.in-Some.ensures)

pub returns : goal.returns
returns c = λ target dist.
    (let P : ℕ → Type 0 = λ n. IsRead c.args.count c.args.pairs.now c.args.lengths.now c.args.i c.args.size c.loop-left.at n c.loop-left.walk in
    let done : c.loop-left.left ≡ 0 = omega (arith, c.loop-left-test.false) in
    read_ends c.args.count c.args.pairs.now c.args.starts.now c.requires.starts c.args.lengths.now c.args.i c.args.size c.loop-left.at target c.loop-left.walk
    dist c.requires.in_range c.requires.known (subst P done c.loop-left.invariant))
