-- The lines of all relations, row by row and pair by pair.
use Rattle.std.proofs.Common.{◌≡◌, ℕ, List, [], ◌∷◌, refl, sym}
use Rattle.std.specs.List.{flat_map}
use Rattle.std.proofs.lemmas.Grind.{flat_map-append}
use Rattle.order_laws.specs.declared.Order.{Order}
use Rattle.reason_report.specs.Relations.{relations_between, relations_from, relations_of}
use Rattle.reason_report.specs.Reason.{relation_line, pair_text, row_text}

flat_twice : {X Y Z : Type 0} (f : Y → List Z) (g : X → List Y) (h : X → List Z) → ((x : X) → flat_map f (g x) ≡ h x)
    → (xs : List X) → flat_map f (flat_map g xs) ≡ flat_map h xs
flat_twice f g h each [] = refl
flat_twice f g h each (x ∷ xs) = rw (flat_map-append f (g x) (flat_map g xs), each x, flat_twice f g h each xs) refl

pub row_by_row : (orders : List Order) (periods : List ℕ)
    → flat_map (row_text orders periods) periods ≡ flat_map (relation_line orders) (relations_of orders periods)
row_by_row orders periods =
    sym (flat_twice (relation_line orders) (relations_from orders periods) (row_text orders periods)
    (λ a. flat_twice (relation_line orders) (relations_between orders a) (pair_text orders a) (λ b. refl) periods) periods)
