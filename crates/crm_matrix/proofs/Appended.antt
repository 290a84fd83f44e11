-- Texts that are appended one after another.
use Rattle.std.proofs.Common.{◌≡◌, ℕ, List, ◌++◌, ap, ◌∙◌, append_assoc}

pub appended_then : (s t u x y : List ℕ) → t ≡ s ++ x → u ≡ t ++ y → u ≡ s ++ (x ++ y)
appended_then s t u x y p q = q ∙ ap (λ l. l ++ y) p ∙ append_assoc s x y
