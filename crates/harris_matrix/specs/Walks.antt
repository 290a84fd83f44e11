-- Walks along covers, by the numbers of the covers.
use Rattle.std.specs.Prelude.{◌≡◌, ◌≢◌, ◌<◌, ◌≤◌, ◌+◌, ◌^◌, ℕ, cond, nat_lt, List, [], ◌∷◌, length, slice_index_or, Option, Some, None}
use Rattle.order_laws.specs.Lists.{IsAtMost}
use Rattle.harris_matrix.specs.declared.cells.CellPair.{CellPair}

-- stands where no pair has the number; the definitions below never look there
abbrev pub no_pair : CellPair
no_pair = record { first = 0; second = 0 }

abbrev pub pair_at : List CellPair → ℕ → CellPair
pair_at pairs c = slice_index_or pairs c no_pair

-- a list of pairs by number, each beginning where the one before ends: from i, to j; it may be empty
abbrev pub IsWalk : List CellPair → ℕ → ℕ → List ℕ → Type 0
IsWalk pairs i j [] = i ≡ j
IsWalk pairs i j (c ∷ cs) = (c < length pairs) × ((pair_at pairs c).first ≡ i) × IsWalk pairs (pair_at pairs c).second j cs

-- of the walks of at least one pair the one with the fewest pairs, and among these the one with the least list
pub record IsFirstWalk (pairs : List CellPair) (i j : ℕ) (cs : List ℕ) : Type 0 where
  pub some : 0 < length cs
  pub walk : IsWalk pairs i j cs
  pub first : (ds : List ℕ) → 0 < length ds → IsWalk pairs i j ds → IsAtMost cs ds

-- the first walk, or none where there is none
abbrev pub IsWalkBetween : List CellPair → ℕ → ℕ → Option (List ℕ) → Type 0
IsWalkBetween pairs i j None = (ds : List ℕ) → 0 < length ds → ¬ IsWalk pairs i j ds
IsWalkBetween pairs i j (Some cs) = IsFirstWalk pairs i j cs

-- where the pairs of each cell begin, and behind them where all end
pub record AreStarts (count : ℕ) (pairs : List CellPair) (starts : List ℕ) : Type 0 where
  pub size : length starts ≡ count + 1
  pub few : length pairs ≤ 2 ^ 32
  pub ascending : (i : ℕ) → i < count → slice_index_or starts i 0 ≤ slice_index_or starts (i + 1) 0
  pub within : (i : ℕ) → i < count → slice_index_or starts (i + 1) 0 ≤ length pairs
  pub own : (i c : ℕ) → i < count → slice_index_or starts i 0 ≤ c → c < slice_index_or starts (i + 1) 0 →
      (c < length pairs) × ((pair_at pairs c).first ≡ i)
  pub whole : (c : ℕ) → c < length pairs →
      ((pair_at pairs c).first < count) × ((pair_at pairs c).second < count)
      × (slice_index_or starts (pair_at pairs c).first 0 ≤ c) × (c < slice_index_or starts ((pair_at pairs c).first + 1) 0)

-- all cells, the first cell of each pair ahead of the second
pub record IsForward (count : ℕ) (pairs : List CellPair) (cells : List ℕ) : Type 0 where
  pub in_range : (p : ℕ) → p < length cells → slice_index_or cells p 0 < count
  pub whole : (k : ℕ) → k < count → (p : ℕ) × ((p < length cells) × (slice_index_or cells p 0 ≡ k))
  pub ahead : (p q c : ℕ) → p < length cells → q < length cells → c < length pairs →
      (pair_at pairs c).first ≡ slice_index_or cells p 0 → (pair_at pairs c).second ≡ slice_index_or cells q 0 → p < q

-- the matrix keeps where the covers of each cell begin, and all cells in the order of the covers
pub record IsLaidOut (count : ℕ) (pairs : List CellPair) (starts cells : List ℕ) : Type 0 where
  pub few_cells : count ≤ 2 ^ 16
  pub are_starts : AreStarts count pairs starts
  pub forward : IsForward count pairs cells

-- how many pairs a walk from k to j has at least, or nothing where there is no walk
abbrev pub IsDistance : List CellPair → ℕ → ℕ → Option ℕ → Type 0
IsDistance pairs j k None = (cs : List ℕ) → ¬ IsWalk pairs k j cs
IsDistance pairs j k (Some d) =
    ((cs : List ℕ) × (IsWalk pairs k j cs × (length cs ≡ d))) × ((cs : List ℕ) → IsWalk pairs k j cs → d ≤ length cs)

pub record AreDistances (count : ℕ) (pairs : List CellPair) (j : ℕ) (lengths : List (Option ℕ)) : Type 0 where
  pub size : length lengths ≡ count
  pub each : (k : ℕ) → k < count → IsDistance pairs j k (slice_index_or lengths k None)

-- the length that is known from the second cell of a pair
abbrev pub length_at : List CellPair → List (Option ℕ) → ℕ → Option ℕ
length_at pairs lengths c = slice_index_or lengths (pair_at pairs c).second None

-- the best so far, or by one more pair than the other length
abbrev pub closer : Option ℕ → Option ℕ → Option ℕ
closer best None = best
closer None (Some e) = Some (e + 1)
closer (Some d) (Some e) = cond (nat_lt (e + 1) d) (Some (e + 1)) (Some d)

-- one more than the least length that is known from the second cells of some pairs
abbrev pub IsNearest : List CellPair → List (Option ℕ) → ℕ → ℕ → Option ℕ → Type 0
IsNearest pairs lengths from to None = (c : ℕ) → from ≤ c → c < to → length_at pairs lengths c ≡ None
IsNearest pairs lengths from to (Some d) =
    ((c e : ℕ) → from ≤ c → c < to → length_at pairs lengths c ≡ Some e → d ≤ e + 1)
    × ((c : ℕ) × ((e : ℕ) × ((from ≤ c) × (c < to) × (length_at pairs lengths c ≡ Some e) × (d ≡ e + 1))))

-- the first of some pairs from whose second cell the length is the one that is wanted
abbrev pub IsFirstStep : List CellPair → List (Option ℕ) → ℕ → ℕ → ℕ → Option ℕ → Type 0
IsFirstStep pairs lengths from to wanted None = (c : ℕ) → from ≤ c → c < to → length_at pairs lengths c ≢ Some wanted
IsFirstStep pairs lengths from to wanted (Some c) =
    (from ≤ c) × (c < to) × (length_at pairs lengths c ≡ Some wanted)
    × ((b : ℕ) → from ≤ b → b < c → length_at pairs lengths b ≢ Some wanted)

-- the first of the shortest walks, which may be empty
pub record IsShortestWalk (pairs : List CellPair) (i j d : ℕ) (cs : List ℕ) : Type 0 where
  pub walk : IsWalk pairs i j cs
  pub size : length cs ≡ d
  pub first : (ds : List ℕ) → IsWalk pairs i j ds → IsAtMost cs ds
