use Rattle.std.proofs.Common.{arith, ◌≡◌, ◌+◌, ◌-◌, ◌<◌, ℕ, Option, List, length, get_or, set, subst, sym}
use Rattle.harris_matrix.specs.Walks.{IsNearest}
use Rattle.harris_matrix.proofs.Measuring.{IsMeasured, put_target, put_nearest, measured_ends}
use Rattle.harris_matrix.proofs.walking.measure.Goals as goal
use Rattle.harris_matrix.proofs.walking.measure.Goals.{then-k-target, else-k-target}

pub nearest-found-requires-clause-ascending : goal.nearest-found-requires-clause-ascending
nearest-found-requires-clause-ascending c =
    c.requires.starts.ascending (get_or c.args.cells.now (c.loop-p.p - 1) 0)
    (c.requires.forward.in_range (c.loop-p.p - 1) (omega (arith, c.loop-p.invariant.within, c.loop-p-test.true)))

pub nearest-found-requires-clause-pairs : goal.nearest-found-requires-clause-pairs
nearest-found-requires-clause-pairs c =
    c.requires.starts.within (get_or c.args.cells.now (c.loop-p.p - 1) 0)
    (c.requires.forward.in_range (c.loop-p.p - 1) (omega (arith, c.loop-p.invariant.within, c.loop-p-test.true)))

pub loop-p-preserved : goal.loop-p-preserved
loop-p-preserved c =
    let p : ℕ = c.loop-p.p - 1 in
    let k : ℕ = get_or c.args.cells.now p 0 in
    let back : c.loop-p.p ≡ p + 1 = omega (arith, c.loop-p-test.true) in
    let inside : p < length c.args.cells.now = omega (arith, c.loop-p.invariant.within, c.loop-p-test.true) in
    let P : ℕ → Type 0 = λ n. IsMeasured c.args.count c.args.pairs.now c.args.target c.args.cells.now n c.loop-p.lengths.items in
    let m : IsMeasured c.args.count c.args.pairs.now c.args.target c.args.cells.now (p + 1) c.loop-p.lengths.items = subst P back c.loop-p.invariant in
    let Q : Option ℕ → Type 0 = λ o. IsMeasured c.args.count c.args.pairs.now c.args.target c.args.cells.now p (set c.loop-p.lengths.items k o) in
    elim c.if-k-target.branch [
      | then-k-target w ↦ subst Q (sym w.found-is)
          (put_target c.args.count c.args.pairs.now c.args.starts.now c.args.cells.now c.requires.starts c.requires.forward c.args.target p c.loop-p.lengths.items inside m w.if-k-target.true)
      | else-k-target w ↦ (let R : List (Option ℕ) → Type 0 = λ ls. IsNearest c.args.pairs.now ls (get_or c.args.starts.now k 0) (get_or c.args.starts.now (k + 1) 0) w.nearest-found.result in
          subst Q (sym w.found-is)
          (put_nearest c.args.count c.args.pairs.now c.args.starts.now c.args.cells.now c.requires.starts c.requires.forward c.args.target p c.loop-p.lengths.items w.nearest-found.result
          inside m w.if-k-target.false (subst R w.deref.ensures.value w.nearest-found.ensures)))
    ]

pub returns : goal.returns
returns c =
    let P : ℕ → Type 0 = λ n. IsMeasured c.args.count c.args.pairs.now c.args.target c.args.cells.now n c.loop-p.lengths.items in
    let done : c.loop-p.p ≡ 0 = omega arith in
    measured_ends c.args.count c.args.pairs.now c.args.starts.now c.args.cells.now c.requires.starts c.requires.forward c.args.target c.loop-p.lengths.items (subst P done c.loop-p.invariant)
