-- Names keep their numbers as others come.
use Rattle.std.proofs.Common.{◌≡◌, Bool, true, false, true≢false, List, [], ◌∷◌, ◌++◌, refl, sym, arith}
use Rattle.std.specs.Prelude.{if◌then◌else◌}
use Rattle.std.specs.List.{list_any, position_or_len}

any_kept : {X : Type 0} (q : X → Bool) (xs : List X) (y : X) → list_any q xs ≡ true → list_any q (xs ++ y ∷ []) ≡ true
any_kept q [] y h = absurd (true≢false (sym h))
any_kept q (x ∷ xs) y h = grind (arith, any_kept q xs y)

place_kept : {X : Type 0} (q : X → Bool) (xs : List X) (y : X) → list_any q xs ≡ true → position_or_len q (xs ++ y ∷ []) ≡ position_or_len q xs
place_kept q [] y h = absurd (true≢false (sym h))
place_kept q (x ∷ xs) y h = grind (arith, place_kept q xs y)

any_last : {X : Type 0} (q : X → Bool) (xs : List X) (y : X) → q y ≡ true → list_any q (xs ++ y ∷ []) ≡ true
any_last q [] y is = grind (arith, is)
any_last q (x ∷ xs) y is = grind (arith, any_last q xs y is)

place_last : {X : Type 0} (q : X → Bool) (xs : List X) (y : X) → q y ≡ true → list_any q xs ≡ false → position_or_len q (xs ++ y ∷ []) ≡ position_or_len q xs
place_last q [] y is h = grind (arith, is)
place_last q (x ∷ xs) y is h = grind (arith, place_last q xs y is)

-- a list in which an element stands last, where it is new
abbrev pub with_new : {X : Type 0} → Bool → List X → X → List X
with_new b xs y = if b then xs else xs ++ y ∷ []

-- one that is there stays, in its place
pub stays : {X : Type 0} (b : Bool) (q : X → Bool) (xs : List X) (y : X) → list_any q xs ≡ true
    → (list_any q (with_new b xs y) ≡ true) × (position_or_len q (with_new b xs y) ≡ position_or_len q xs)
stays true q xs y h = (h, refl)
stays false q xs y h = (any_kept q xs y h, place_kept q xs y h)

-- the new one is there, in the place that was foreseen
pub comes : {X : Type 0} (b : Bool) (q : X → Bool) (xs : List X) (y : X) → q y ≡ true → list_any q xs ≡ b
    → (list_any q (with_new b xs y) ≡ true) × (position_or_len q (with_new b xs y) ≡ position_or_len q xs)
comes true q xs y is h = (h, refl)
comes false q xs y is h = (any_last q xs y is, place_last q xs y is h)
