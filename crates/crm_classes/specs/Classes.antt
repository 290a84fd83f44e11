-- Which classes are below which: by chains of direct parents.
use Rattle.std.specs.Prelude.{ℕ, ◌≡◌, ◌||◌, ◌&&◌, ◌==◌, Bool, true, Option, List, [], ◌∷◌, map, slice_index_or, position, bytes_eq, nat_eq}
use Rattle.std.specs.List.{list_any}
use Rattle.crm_classes.specs.Table.{rows, above}

-- the codes of the classes
abbrev pub class_codes : List (List ℕ)
class_codes = map (λ row. row.0) rows

abbrev pub code_text : ℕ → List ℕ
code_text c = (slice_index_or rows c ([], [])).0

abbrev pub parent_codes : ℕ → List (List ℕ)
parent_codes c = (slice_index_or rows c ([], [])).1

-- the class with this code
abbrev pub class_of_text : List ℕ → Option ℕ
class_of_text text = position (bytes_eq text) class_codes

-- d is a direct parent of c
abbrev pub is_direct : ℕ → ℕ → Bool
is_direct c d = list_any (bytes_eq (code_text d)) (parent_codes c)

-- one or more steps lead from c to d, each from a class to a direct parent of it
abbrev pub IsParentChain : ℕ → List ℕ → ℕ → Type 0
IsParentChain c [] d = is_direct c d ≡ true
IsParentChain c (m ∷ ms) d = (is_direct c m ≡ true) × IsParentChain m ms d

abbrev pub IsBelow : ℕ → ℕ → Type 0
IsBelow c d = (between : List ℕ) × IsParentChain c between d

-- the same as a test, by the table of all classes above c
abbrev pub is_below : ℕ → ℕ → Bool
is_below c d = list_any (λ a. nat_eq a d) (slice_index_or above c [])

-- c is d or below it
abbrev pub is_within : ℕ → ℕ → Bool
is_within c d = c == d || is_below c d

-- equal, or one is below the other
abbrev pub is_comparable : ℕ → ℕ → Bool
is_comparable c d = c == d || is_below c d || is_below d c

-- one class is within the first family and the other within the second
abbrev pub is_across : ℕ → ℕ → ℕ → ℕ → Bool
is_across first second c d = (is_within c first && is_within d second) || (is_within c second && is_within d first)

-- E2 Temporal Entity, E52 Time-Span, E77 Persistent Item and E92 Spacetime Volume
abbrev pub e2 : ℕ
e2 = 1

abbrev pub e52 : ℕ
e52 = 2

abbrev pub e77 : ℕ
e77 = 5

abbrev pub e92 : ℕ
e92 = 6

-- E2, E52 and E77 head three families that share no instance
abbrev pub is_incompatible : ℕ → ℕ → Bool
is_incompatible c d = is_across e2 e77 c d || is_across e2 e52 c d || is_across e52 e77 c d
