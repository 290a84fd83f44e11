-- Whether an extent is under way at an instant.
use Rattle.std.specs.Prelude.{ℕ, ℤ, Bool, ◌≡◌, ◌*◌, ◌&&◌, ◌||◌, true, false, if◌then◌else◌, List, [], ◌∷◌, ◌++◌, length}
use Rattle.order_laws.specs.declared.Order.{Order}
use Rattle.order_laws.specs.declared.Point.{Point}
use Rattle.order_laws.specs.declared.Point.TheVariants.{Start, End, Date}
use Rattle.order_laws.specs.declared.By.TheVariants.{Extent}
use Rattle.order_laws.specs.declared.Position.{Position}
use Rattle.order_laws.specs.declared.Reach.{Reach}
use Rattle.order_laws.specs.Closure.{reach_between}
use Rattle.order_laws.specs.Placings.{IsSatisfied, position_at}
use Rattle.order_laws.specs.Positions.{Stand}
use Rattle.order_laws.specs.Tables.{is_known, is_strict}
use Rattle.order_laws.specs.Wider.{plain_placing}
use Rattle.order_core.specs.Sets.{Orders}
use Rattle.dating_bounds.specs.declared.moments.During.{During}
use Rattle.dating_bounds.specs.declared.moments.During.TheVariants.{Surely, Never, Maybe}

-- the placing starts the extent at or before the instant, and ends it after
pub record IsUnderWay (dates : List ℤ) (placing : List Position) (k : ℕ) (t : ℤ) : Type 0 where
  pub started : Stand false (position_at dates placing (Start k)) (record { instant = t; rank = 0 })
  pub unended : Stand true (record { instant = t; rank = 0 }) (position_at dates placing (End k))

-- the placing is one of the extents, and satisfies the orders
pub record IsPlacingOf (set : Orders) (placing : List Position) : Type 0 where
  pub size : length placing ≡ 2 * set.extents
  pub satisfies : IsSatisfied set.list set.dates placing

-- surely where the extent is under way in every satisfying placing, never where in none, maybe where in one and not in another
abbrev pub IsDuring : Orders → ℤ → ℕ → During → Type 0
IsDuring set t k Surely = (placing : List Position) → IsPlacingOf set placing → IsUnderWay set.dates placing k t
IsDuring set t k Never = (placing : List Position) → IsPlacingOf set placing → ¬ IsUnderWay set.dates placing k t
IsDuring set t k (Maybe inside outside) =
    (IsPlacingOf set inside × IsUnderWay set.dates inside k t) × (IsPlacingOf set outside × ¬ IsUnderWay set.dates outside k t)

-- what is known says enough: `<` where the flag is set, else `<=`
abbrev pub is_enough : Bool → Reach → Bool
is_enough strict reach = if strict then is_strict reach else is_known reach

-- from what is known between the points of the set, with the instant as the date of a number
abbrev pub is_surely : (Point → Point → Reach) → ℕ → ℕ → Bool
is_surely table date k = is_known (table (Start k) (Date date)) && is_strict (table (Date date) (End k))

abbrev pub is_never : (Point → Point → Reach) → ℕ → ℕ → Bool
is_never table date k = is_strict (table (Date date) (Start k)) || is_known (table (End k) (Date date))

-- an order between a boundary of an extent and a date
abbrev pub order_to : ℕ → Point → Point → Bool → Order
order_to k low high strict = record { low = low; high = high; strict = strict; by = Extent k }

-- the extent is under way at the date
abbrev pub inside_orders : ℕ → ℕ → List Order
inside_orders date k = order_to k (Start k) (Date date) false ∷ order_to k (Date date) (End k) true ∷ []

-- it starts after the date where it need not start at or before it, else it ends at or before it
abbrev pub outside_order : (Point → Point → Reach) → ℕ → ℕ → Order
outside_order table date k =
    if is_known (table (Start k) (Date date)) then order_to k (End k) (Date date) false else order_to k (Date date) (Start k) true

-- the plain placing with further orders
abbrev pub plain_with : Orders → List Order → List Position
plain_with set more = plain_placing (set.list ++ more) set.extents set.dates

-- a placing in which the extent is under way at the date, and one in which it is not
abbrev pub maybe_of : Orders → ℕ → ℕ → During
maybe_of set date k =
    Maybe (plain_with set (inside_orders date k)) (plain_with set (outside_order (reach_between set.list) date k ∷ []))

abbrev pub during_of : Orders → ℕ → ℕ → During
during_of set date k =
    if is_surely (reach_between set.list) date k then Surely else if is_never (reach_between set.list) date k then Never else maybe_of set date k
