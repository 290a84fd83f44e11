-- The texts of points, orders, dates, chains and placings.
use Rattle.std.specs.Prelude.{zero, suc, ℕ, ℤ, ◌+◌, ◌*◌, ◌/◌, Bool, List, [], ◌∷◌, ◌++◌, length, if◌then◌else◌, codes, slice_index_or, flat_map}
use Rattle.std.specs.Fmt.{decimal, signed_decimal}
use Rattle.order_laws.specs.declared.Point.{Point}
use Rattle.order_laws.specs.declared.Point.TheVariants.{Start, End, Date}
use Rattle.order_laws.specs.declared.By.{By}
use Rattle.order_laws.specs.declared.By.TheVariants.{Triple, Extent, Dates}
use Rattle.order_laws.specs.declared.Order.{Order}
use Rattle.order_laws.specs.declared.Position.{Position}
use Rattle.order_laws.specs.Placings.{no_position}
use Rattle.crm_outside.specs.Printing.{lines_from}

-- a word and a number
unfoldable pub count_line : List ℕ → ℕ → List ℕ
count_line word n = word ++ (codes " " ++ (decimal n ++ codes "\n"))

-- `s`, `e` or `d`, and the number
abbrev pub point_text : Point → List ℕ
point_text (Start k) = 115 ∷ decimal k
point_text (End k) = 101 ∷ decimal k
point_text (Date k) = 100 ∷ decimal k

-- what an order comes from: its triple, its extent, or `dates`
abbrev pub by_text : By → List ℕ
by_text (Triple i) = 116 ∷ decimal i
by_text (Extent k) = 120 ∷ decimal k
by_text Dates = codes "dates"

abbrev pub sign_text : Bool → List ℕ
sign_text strict = if strict then codes " < " else codes " <= "

-- the low point, the sign, the high point, and what the order comes from
abbrev pub order_text : Order → List ℕ
order_text o = point_text o.low ++ (sign_text o.strict ++ (point_text o.high ++ (codes " " ++ by_text o.by)))

-- the line of an order with its number
unfoldable pub order_line : ℕ → Order → List ℕ
order_line n o = codes "o" ++ (decimal n ++ (codes " " ++ (order_text o ++ codes "\n")))

-- the count of orders, and their lines
abbrev pub orders_text : List Order → List ℕ
orders_text orders = count_line (codes "orders") (length orders) ++ lines_from order_line 0 orders

-- the line of a date with its number: its instant in nanoseconds since 1970-01-01T00:00:00Z
unfoldable pub date_line : ℕ → ℤ → List ℕ
date_line k instant = codes "d" ++ (decimal k ++ (codes " " ++ (signed_decimal instant ++ codes "\n")))

-- the count of dates, and their lines
abbrev pub dates_text : List ℤ → List ℕ
dates_text dates = count_line (codes "dates") (length dates) ++ lines_from date_line 0 dates

abbrev pub step_text : ℕ → List ℕ
step_text n = codes " o" ++ decimal n

-- the numbers of a chain's orders, ` oN` for each
abbrev pub chain_text : List ℕ → List ℕ
chain_text = flat_map step_text

-- the instant and the rank
abbrev pub position_text : Position → List ℕ
position_text p = signed_decimal p.instant ++ (codes "/" ++ decimal p.rank)

-- a letter with the number of the extent, and where that boundary stands
abbrev pub boundary_text : ℕ → ℕ → Position → List ℕ
boundary_text letter k position = codes " " ++ ((letter ∷ decimal k) ++ (codes "=" ++ position_text position))

-- where an extent starts, and where it ends
abbrev pub extent_text : List Position → ℕ → List ℕ
extent_text placing k =
    boundary_text 115 k (slice_index_or placing (2 * k) no_position)
    ++ boundary_text 101 k (slice_index_or placing (2 * k + 1) no_position)

-- the same for the first extents
abbrev pub extent_texts : List Position → ℕ → List ℕ
extent_texts placing zero = []
extent_texts placing (suc k) = extent_texts placing k ++ extent_text placing k

-- the line of a placing with its name
unfoldable pub placing_line : List ℕ → List Position → List ℕ
placing_line name placing = codes "placing " ++ (name ++ (extent_texts placing (length placing / 2) ++ codes "\n"))
