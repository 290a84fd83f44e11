-- What stands at an index.
use Rattle.std.proofs.Common.{zero, suc, ◌≡◌, ℕ, List, [], ◌∷◌, ◌<◌, length, get_or, arith, ap, Some, slice_get}

pub stands_at : {X : Type 0} (xs : List X) (k : ℕ) (x : X) → k < length xs → x ≡ get_or xs k x → Some x ≡ slice_get xs k
stands_at [] k x h e = absurd (omega arith)
stands_at (y ∷ xs) zero x h e = ap Some e
stands_at (y ∷ xs) (suc k) x h e = stands_at xs k x (omega arith) e
