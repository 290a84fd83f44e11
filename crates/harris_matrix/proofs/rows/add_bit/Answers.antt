use Rattle.std.proofs.Common.{◌≡◌, ◌+◌, ◌*◌, ◌/◌, ◌%◌, ◌^◌, ◌∙◌, ℕ, Bool, List, cond, get_or, set, bit_or, ap, refl, arith, subst, sym}
use Rattle.std.proofs.lemmas.List.{set-get_or}
use Rattle.std.specs.Int.Bits.{or_zero_r}
use Rattle.harris_matrix.proofs.rows.add_bit.Goals as goal

pub returns-clause-set : goal.returns-clause-set
returns-clause-set c = λ e. rw e refl

pub returns-clause-kept : goal.returns-clause-kept
returns-clause-kept c = λ e.
    (let place : ℕ = c.args.row + c.args.k / 64 in
    let none : 0 * 2 ^ (c.args.k % 64) % 2 ^ 64 ≡ 0 = omega arith in
    let P : ℕ → Type 0 = λ v. set c.args.words.now place (bit_or (get_or c.args.words.now place 0) v) ≡ c.args.words.now in
    rw e (subst P (sym none) (ap (λ v. set c.args.words.now place v) (or_zero_r (get_or c.args.words.now place 0)) ∙ set-get_or c.args.words.now place 0)))
