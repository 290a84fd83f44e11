-- What is printed of the reasons of a set of orders.
use Rattle.std.specs.Prelude.{ℕ, Bool, true, false, List, ◌++◌, Option, None, Some, if◌then◌else◌, codes}
use Rattle.std.specs.List.{flat_map}
use Rattle.std.specs.Fmt.{decimal}
use Rattle.order_laws.specs.declared.Order.{Order}
use Rattle.order_laws.specs.declared.Point.{Point}
use Rattle.order_laws.specs.declared.Point.TheVariants.{Start, End}
use Rattle.order_laws.specs.Wider.{plain_placing, delaying_placing}
use Rattle.order_core.specs.declared.sides.Side.{Side}
use Rattle.order_core.specs.Primitives.{primitive_of, code_of}
use Rattle.order_core.specs.Sets.{Orders}
use Rattle.order_core.specs.Sides.{left_point, right_point}
use Rattle.order_analysis.specs.Reasons.{reason_of}
use Rattle.order_analysis.specs.Subjects.{cycle_of}
use Rattle.order_texts.specs.Texts.{count_line, point_text, chain_text, placing_line}
use Rattle.reason_report.specs.declared.relations.Relation.{Relation}
use Rattle.reason_report.specs.Relations.{relations_between, relations_of, count_primitives}

-- the codes of the primitives that a relation lists
abbrev pub side_codes : Side → Bool → List ℕ
side_codes side strict =
    if strict
    then code_of (primitive_of side false) ++ (codes " " ++ code_of (primitive_of side true))
    else code_of (primitive_of side false)

abbrev pub reason_text : List Order → Point → Point → List ℕ
reason_text orders x y = chain_text (reason_of orders x y)

abbrev pub period_text : ℕ → List ℕ
period_text k = codes " x" ++ decimal k

-- the codes of a relation, its periods, and the chain that shows it
unfoldable pub relation_line : List Order → Relation → List ℕ
relation_line orders r =
    side_codes r.side r.strict
    ++ (period_text r.left ++ (period_text r.right
    ++ (codes " by" ++ (reason_text orders (left_point r.side r.left) (right_point r.side r.right) ++ codes "\n"))))

-- the lines of the relations of two periods, and those of one period to each
abbrev pub pair_text : List Order → ℕ → ℕ → List ℕ
pair_text orders a b = flat_map (relation_line orders) (relations_between orders a b)

abbrev pub row_text : List Order → List ℕ → ℕ → List ℕ
row_text orders periods a = flat_map (pair_text orders a) periods

-- the line of the placing that delays a boundary, under the boundary's name
abbrev pub delay_line : Orders → Point → List ℕ
delay_line set x = placing_line (point_text x) (delaying_placing set.list set.extents set.dates x)

-- of the start of a period, and of its end
abbrev pub delay_lines : Orders → ℕ → List ℕ
delay_lines set k = delay_line set (Start k) ++ delay_line set (End k)

-- the line of the plain placing
abbrev pub plain_line : Orders → List ℕ
plain_line set = placing_line (codes "plain") (plain_placing set.list set.extents set.dates)

-- the cycle that refutes the orders
unfoldable pub inconsistent_text : List ℕ → List ℕ
inconsistent_text cycle = codes "inconsistent\ncycle" ++ (chain_text cycle ++ codes "\n")

-- the lines of all relations that follow
abbrev pub relation_lines : Orders → List ℕ → List ℕ
relation_lines set periods = flat_map (relation_line set.list) (relations_of set.list periods)

-- the relations that follow, each with its reason, and the placings that break what doesn't follow
abbrev pub consistent_text : Orders → List ℕ → List ℕ
consistent_text set periods =
    codes "consistent\n"
    ++ (plain_line set
    ++ (relation_lines set periods
    ++ (flat_map (delay_lines set) periods
    ++ count_line (codes "relations") (count_primitives (relations_of set.list periods)))))

abbrev pub text_by : Option (List ℕ) → List ℕ → List ℕ
text_by None text = text
text_by (Some cycle) text = inconsistent_text cycle

-- the whole report of the orders, over the numbers of the periods
abbrev pub report_text : Orders → List ℕ → List ℕ
report_text set periods = text_by (cycle_of set) (consistent_text set periods)
