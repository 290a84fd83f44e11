-- There is at most one first chain.
use Rattle.std.proofs.Common.{◌≡◌, ℕ, List, [], ◌∷◌, Bool, arith, inl, inr, sym}
use Rattle.order_laws.specs.declared.Order.{Order}
use Rattle.order_laws.specs.declared.Point.{Point}
use Rattle.order_laws.specs.FirstChains.{IsFirstChain}
use Rattle.order_laws.specs.Lists.{IsLexicographicallyLess, IsLess, IsAtMost}

never_both_ways : (xs ys : List ℕ) → IsLexicographicallyLess xs ys → IsLexicographicallyLess ys xs → ⊥
never_both_ways [] ys h k = absurd h
never_both_ways (x ∷ xs) [] h k = absurd h
never_both_ways (x ∷ xs) (y ∷ ys) (inl h) (inl k) = omega arith
never_both_ways (x ∷ xs) (y ∷ ys) (inl h) (inr k) = omega (arith, k.0)
never_both_ways (x ∷ xs) (y ∷ ys) (inr h) (inl k) = omega (arith, h.0)
never_both_ways (x ∷ xs) (y ∷ ys) (inr h) (inr k) = never_both_ways xs ys h.1 k.1

never_less_both : (xs ys : List ℕ) → IsLess xs ys → IsLess ys xs → ⊥
never_less_both xs ys (inl h) (inl k) = omega arith
never_less_both xs ys (inl h) (inr k) = omega (arith, k.0)
never_less_both xs ys (inr h) (inl k) = omega (arith, h.0)
never_less_both xs ys (inr h) (inr k) = never_both_ways xs ys h.1 k.1

pub at_most_each : (xs ys : List ℕ) → IsAtMost xs ys → IsAtMost ys xs → xs ≡ ys
at_most_each xs ys (inl e) k = e
at_most_each xs ys (inr h) (inl e) = sym e
at_most_each xs ys (inr h) (inr k) = absurd (never_less_both xs ys h k)

pub one_first : (orders : List Order) (x y : Point) (strict : Bool) (ns ms : List ℕ) →
    IsFirstChain orders x y strict ns → IsFirstChain orders x y strict ms → ns ≡ ms
one_first orders x y strict ns ms a b = at_most_each ns ms (a.first ms b.chain b.shows) (b.first ns a.chain a.shows)
