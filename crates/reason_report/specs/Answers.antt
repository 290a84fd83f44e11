-- What is printed of one primitive between two periods.
use Rattle.std.specs.Prelude.{ℕ, Bool, List, [], ◌++◌, Option, None, Some, if◌then◌else◌, codes, slice_get}
use Rattle.std.specs.List.{flat_map}
use Rattle.order_laws.specs.declared.Order.{Order}
use Rattle.order_laws.specs.declared.Point.{Point}
use Rattle.order_laws.specs.declared.Reach.{Reach}
use Rattle.order_laws.specs.Closure.{reach_between}
use Rattle.order_laws.specs.Tables.{is_known, is_strict}
use Rattle.order_core.specs.Sets.{Orders}
use Rattle.order_core.specs.Primitives.{points_of, code_of}
use Rattle.order_core.specs.declared.primitives.Primitive.{Primitive}
use Rattle.order_texts.specs.Texts.{chain_text, order_line}
use Rattle.reason_report.specs.declared.answers.Answer.{Answer}
use Rattle.reason_report.specs.declared.answers.Answer.TheVariants.{Holds, Fails, Inconsistent}
use Rattle.order_analysis.specs.Reasons.{reason_of}
use Rattle.order_analysis.specs.Subjects.{cycle_of}
use Rattle.reason_report.specs.Reason.{delay_line, text_by}

-- what is known says enough: `<` where the flag is set, else `<=`
abbrev pub is_enough : Bool → Reach → Bool
is_enough strict reach = if strict then is_strict reach else is_known reach

-- the primitive follows from the orders
abbrev pub is_following : List Order → ℕ → Primitive → ℕ → Bool
is_following orders a p b = is_enough (points_of p a b).2 (reach_between orders (points_of p a b).0 (points_of p a b).1)

abbrev pub line_or_none : ℕ → Option Order → List ℕ
line_or_none n None = []
line_or_none n (Some order) = order_line n order

-- the line of an order by its number
abbrev pub step_line : List Order → ℕ → List ℕ
step_line orders n = line_or_none n (slice_get orders n)

-- the chain that shows the primitive, and the line of each of its orders
unfoldable pub holds_text : List Order → Primitive → List ℕ → List ℕ
holds_text orders p chain =
    codes "holds " ++ (code_of p ++ (codes " by" ++ (chain_text chain ++ (codes "\n" ++ flat_map (step_line orders) chain))))

-- the placing that breaks the primitive
unfoldable pub fails_text : Orders → Primitive → Point → List ℕ
fails_text set p x = codes "fails " ++ (code_of p ++ (codes "\n" ++ delay_line set x))

abbrev pub verdict_text : Orders → ℕ → Primitive → ℕ → List ℕ
verdict_text set a p b =
    if is_following set.list a p b
    then holds_text set.list p (reason_of set.list (points_of p a b).0 (points_of p a b).1)
    else fails_text set p (points_of p a b).0

-- the answer to whether a primitive holds between two periods
abbrev pub answer_text : Orders → ℕ → Primitive → ℕ → List ℕ
answer_text set a p b = text_by (cycle_of set) (verdict_text set a p b)

-- whether it follows from orders that have no cycle
abbrev pub verdict_of : List Order → ℕ → Primitive → ℕ → Answer
verdict_of orders a p b = if is_following orders a p b then Holds else Fails

abbrev pub answer_by : Option (List ℕ) → Answer → Answer
answer_by None verdict = verdict
answer_by (Some cycle) verdict = Inconsistent

abbrev pub answer_of : Orders → ℕ → Primitive → ℕ → Answer
answer_of set a p b = answer_by (cycle_of set) (verdict_of set.list a p b)
