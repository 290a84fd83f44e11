-- The elements of a list that is made of lists.
use Rattle.std.proofs.Common.{zero, suc, ◌≡◌, ℕ, ◌<◌, List, [], ◌∷◌, length, get_or, arith, inl, inr, refl, sym, subst}
use Rattle.std.specs.List.{flat_map, Contains}
use Rattle.std.proofs.lemmas.List.Elements.{Contains-append_left, Contains-append_right, Contains-append_cases}

-- the list from which an element comes
pub record Source {X Y : Type 0} (f : X → List Y) (xs : List X) (y : Y) : Type 0 where
  pub source : X
  pub among : Contains xs source
  pub holds : Contains (f source) y

pub source_of : {X Y : Type 0} (f : X → List Y) (xs : List X) (y : Y) → Contains (flat_map f xs) y → Source f xs y
source_of f [] y h = absurd (omega (arith, h.1))
source_of f (x ∷ xs) y h =
    elim (Contains-append_cases (f x) (flat_map f xs) y h) [
      | inl here ↦ record { source = x; among = (0, omega arith, refl); holds = here }
      | inr later ↦
          (let found = source_of f xs y later in
          record { source = found.source; among = (suc found.among.0, omega (arith, found.among.1), found.among.2); holds = found.holds })
    ]

pub element_of : {X Y : Type 0} (f : X → List Y) (xs : List X) (x : X) (y : Y) (k : ℕ) → k < length xs → get_or xs k x ≡ x
    → Contains (f x) y → Contains (flat_map f xs) y
element_of f [] x y k l e h = absurd (omega (arith, l))
element_of {X} f (z ∷ xs) x y zero l e h =
    Contains-append_left (f z) (flat_map f xs) y (let P : X → Type 0 = λ w. Contains (f w) y in subst P (sym e) h)
element_of f (z ∷ xs) x y (suc k) l e h = Contains-append_right (f z) (flat_map f xs) y (element_of f xs x y k (omega (arith, l)) e h)
