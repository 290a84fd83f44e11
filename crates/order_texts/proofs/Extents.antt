-- The texts of one more extent.
use Rattle.std.proofs.Common.{◌≡◌, ℕ, ◌+◌, List, ◌++◌, suc, arith, append_assoc}
use Rattle.order_laws.specs.declared.Position.{Position}
use Rattle.order_texts.specs.Texts.{extent_text, extent_texts}

pub one_more : (line : List ℕ) (placing : List Position) (k : ℕ)
    → (line ++ extent_texts placing k) ++ extent_text placing k ≡ line ++ extent_texts placing (k + 1)
one_more line placing k =
    let e : k + 1 ≡ suc k = omega arith in
    rw e (append_assoc line (extent_texts placing k) (extent_text placing k))
