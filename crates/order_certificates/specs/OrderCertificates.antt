-- The text of a certificate of consistent orders, version 2.
use Rattle.std.specs.Prelude.{ℕ, suc, ◌+◌, ◌*◌, ◌==◌, List, [], ◌∷◌, ◌++◌, cond, codes}
use Rattle.std.specs.List.{flat_map}
use Rattle.std.specs.Fmt.{decimal}
use Rattle.order_laws.specs.declared.Point.{Point}
use Rattle.order_laws.specs.declared.Point.TheVariants.{Start, End}
use Rattle.order_laws.specs.declared.Position.{Position}
use Rattle.order_laws.specs.declared.Reach.{Reach}
use Rattle.order_laws.specs.declared.Reach.TheVariants.{None as Nothing, Le, Lt}
use Rattle.order_laws.specs.Wider.{plain_placing, delaying_placing}
use Rattle.order_core.specs.Sets.{Orders}
use Rattle.order_texts.specs.Texts.{position_text}
use Rattle.order_core.specs.declared.sides.Side.{Side}
use Rattle.order_core.specs.declared.sides.Side.TheVariants.{StartEnd, StartStart, EndStart, EndEnd}
use Rattle.order_core.specs.Sides.{left_point, right_point, side_name, all_sides}
use Rattle.order_analysis.specs.Reasons.{reach_at, reason_of}
use Rattle.order_certificates.specs.declared.sharing.Part.{Part}
use Rattle.order_certificates.specs.Sharing.{LetSteps, no_lets, turned, part_text, chain_part, chain_lets, chain_lines}

abbrev pub placed : Position → List ℕ
placed p = codes " " ++ position_text p

-- the line of a placing
unfoldable pub place_line : List Position → List ℕ
place_line ps = codes "place" ++ (flat_map placed ps ++ codes "\n")

-- the line of the plain placing, and those of the placings that delay the start and the end of a period
abbrev pub plain_place : Orders → List ℕ
plain_place set = place_line (plain_placing set.list set.extents set.dates)

abbrev pub delay_place : Orders → Point → List ℕ
delay_place set x = place_line (delaying_placing set.list set.extents set.dates x)

abbrev pub delay_places : Orders → ℕ → List ℕ
delay_places set k = delay_place set (Start k) ++ delay_place set (End k)

-- the placing that delays the left boundary of a side, of the period at a place among all: behind the plain one
abbrev pub delay_number : ℕ → Side → ℕ
delay_number place StartEnd = 2 * place + 1
delay_number place StartStart = 2 * place + 1
delay_number place EndStart = 2 * place + 2
delay_number place EndEnd = 2 * place + 2

abbrev pub extent_name : ℕ → List ℕ
extent_name k = codes "x" ++ decimal k

abbrev pub placing_name : ℕ → List ℕ
placing_name p = codes "p" ++ decimal p

-- two periods and a side
unfoldable pub question : ℕ → ℕ → Side → List ℕ
question a b side = codes "pair " ++ (extent_name a ++ (codes " " ++ (extent_name b ++ (codes " " ++ side_name side))))

-- the right boundary is before the left one in a placing
unfoldable pub open_line : ℕ → ℕ → Side → ℕ → List ℕ
open_line a b side p = question a b side ++ (codes " no " ++ (placing_name p ++ codes "\n"))

-- the left boundary is before the right one by a proof
unfoldable pub before_line : ℕ → ℕ → Side → Part → List ℕ
before_line a b side proof = question a b side ++ (codes " lt " ++ (part_text proof ++ codes "\n"))

-- it is at or before it by a proof, and not before it in a placing
unfoldable pub at_or_before_line : ℕ → ℕ → Side → Part → ℕ → List ℕ
at_or_before_line a b side proof p = question a b side ++ (codes " le " ++ (part_text proof ++ (codes " " ++ (placing_name p ++ codes "\n"))))

-- the chain of the relation of two periods on a side
abbrev pub side_chain : Orders → ℕ → ℕ → Side → List ℕ
side_chain set a b side = reason_of set.list (left_point side a) (right_point side b)

-- what is said of a side by what follows, with the lines that its chain lacks before it
abbrev pub side_lines_by : Orders → ℕ → LetSteps → ℕ → ℕ → Side → Reach → List ℕ
side_lines_by set place lets a b side Nothing = open_line a b side (delay_number place side)
side_lines_by set place lets a b side Le =
    chain_lines lets (side_chain set a b side) ++ at_or_before_line a b side (chain_part lets (side_chain set a b side)) (delay_number place side)
side_lines_by set place lets a b side Lt =
    chain_lines lets (side_chain set a b side) ++ before_line a b side (chain_part lets (side_chain set a b side))

abbrev pub side_lets_by : Orders → LetSteps → ℕ → ℕ → Side → Reach → LetSteps
side_lets_by set lets a b side Nothing = lets
side_lets_by set lets a b side Le = chain_lets lets (side_chain set a b side)
side_lets_by set lets a b side Lt = chain_lets lets (side_chain set a b side)

abbrev pub side_lines : Orders → ℕ → LetSteps → ℕ → ℕ → Side → List ℕ
side_lines set place lets a b side = side_lines_by set place lets a b side (reach_at set.list a b side)

abbrev pub side_lets : Orders → LetSteps → ℕ → ℕ → Side → LetSteps
side_lets set lets a b side = side_lets_by set lets a b side (reach_at set.list a b side)

abbrev pub sides_lines : Orders → ℕ → LetSteps → ℕ → ℕ → List Side → List ℕ
sides_lines set place lets a b [] = []
sides_lines set place lets a b (s ∷ ss) = side_lines set place lets a b s ++ sides_lines set place (side_lets set lets a b s) a b ss

abbrev pub sides_lets : Orders → LetSteps → ℕ → ℕ → List Side → LetSteps
sides_lets set lets a b [] = lets
sides_lets set lets a b (s ∷ ss) = sides_lets set (side_lets set lets a b s) a b ss

-- of two periods, side by side; a period has none with itself
abbrev pub pair_lines : Orders → ℕ → LetSteps → ℕ → ℕ → List ℕ
pair_lines set place lets a b = cond (a == b) [] (sides_lines set place lets a b all_sides)

abbrev pub pair_lets : Orders → LetSteps → ℕ → ℕ → LetSteps
pair_lets set lets a b = cond (a == b) lets (sides_lets set lets a b all_sides)

-- of one period, which stands at a place among all, and each of others
abbrev pub row_lines : Orders → ℕ → LetSteps → ℕ → List ℕ → List ℕ
row_lines set place lets a [] = []
row_lines set place lets a (b ∷ bs) = pair_lines set place lets a b ++ row_lines set place (pair_lets set lets a b) a bs

abbrev pub row_lets : Orders → LetSteps → ℕ → List ℕ → LetSteps
row_lets set lets a [] = lets
row_lets set lets a (b ∷ bs) = row_lets set (pair_lets set lets a b) a bs

-- of each of some periods, of which the first stands at a place among all, and each period
abbrev pub rows_lines : Orders → List ℕ → ℕ → LetSteps → List ℕ → List ℕ
rows_lines set periods place lets [] = []
rows_lines set periods place lets (a ∷ rest) =
    row_lines set place (turned lets) a periods ++ rows_lines set periods (place + 1) (row_lets set (turned lets) a periods) rest

-- behind the first line
abbrev pub placed_text : Orders → List ℕ → List ℕ
placed_text set periods =
    plain_place set ++ (flat_map (delay_places set) periods ++ (rows_lines set periods 0 no_lets periods ++ codes "end\n"))

-- the certificate of consistent orders
abbrev pub consistent_text : Orders → List ℕ → List ℕ
consistent_text set periods = codes "crmtime 2 orders\n" ++ placed_text set periods
