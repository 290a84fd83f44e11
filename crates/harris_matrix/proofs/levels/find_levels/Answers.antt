use Rattle.std.proofs.Common.{◌≡◌, ◌+◌, ℕ, length, get_or, set, arith, subst, sym}
use Rattle.harris_matrix.specs.Rows.{mark_at}
use Rattle.harris_matrix.proofs.Levelling.{IsLevelled, low, levelled_more, levelled_ends}
use Rattle.harris_matrix.proofs.levels.find_levels.Goals as goal

pub above-level-requires-clause-low : goal.above-level-requires-clause-low
above-level-requires-clause-low c =
    rw c.deref.ensures.value (low _ _ c.requires.orderly _ _ _ c.loop-j.invariant)

pub loop-j-preserved : goal.loop-j-preserved
loop-j-preserved c =
    let j : ℕ = get_or c.args.cells.now c.loop-j.j-index 0 in
    let e = rw c.deref.ensures.value at c.above-level.ensures in
    let P : ℕ → Type 0 = λ level. IsLevelled (mark_at c.args.rows.now.count c.args.rows.now.words.items) c.args.rows.now.count c.args.cells.now (c.loop-j.j-index + 1) (set c.loop-j.levels.items j level) in
    subst P (sym e) (levelled_more _ _ c.requires.orderly _ _ _ c.requires.ordering (omega arith) c.loop-j.invariant)

pub returns : goal.returns
returns c =
    let done : c.loop-j.j-index ≡ length c.args.cells.now = omega arith in
    let P : ℕ → Type 0 = λ p. IsLevelled (mark_at c.args.rows.now.count c.args.rows.now.words.items) c.args.rows.now.count c.args.cells.now p c.loop-j.levels.items in
    levelled_ends _ _ c.requires.orderly _ _ c.requires.ordering (subst P done c.loop-j.invariant)
