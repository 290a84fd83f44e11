-- The possible relations of two extents, by what follows between their boundaries.
use Rattle.std.specs.Prelude.{ℕ, Bool, ◌&&◌, not, List}
use Rattle.std.specs.List.{filter}
use Rattle.order_laws.specs.declared.Order.{Order}
use Rattle.order_laws.specs.declared.Point.{Point}
use Rattle.order_laws.specs.declared.Point.TheVariants.{Start, End}
use Rattle.order_laws.specs.Closure.{reach_between}
use Rattle.order_laws.specs.Tables.{is_known, is_strict}
use Rattle.crm_allen.specs.declared.relations.Allen.{Allen}
use Rattle.crm_allen.specs.declared.relations.Allen.TheVariants.{Before, Meets, Overlaps, Finished, Contains, Starts, Equal, Started, During, Finishes, Overlapped, Met, After}
use Rattle.crm_allen.specs.Names.{all_relations}

-- nothing that follows speaks against x being before y, or at y
abbrev pub may_be_before : List Order → Point → Point → Bool
may_be_before orders x y = not (is_known (reach_between orders y x))

abbrev pub may_be_at : List Order → Point → Point → Bool
may_be_at orders x y = not (is_strict (reach_between orders x y)) && not (is_strict (reach_between orders y x))

abbrev pub may_overlap : List Order → ℕ → ℕ → Bool
may_overlap orders a b = (may_be_before orders (Start a) (Start b) && may_be_before orders (Start b) (End a)) && may_be_before orders (End a) (End b)

abbrev pub may_be_finished : List Order → ℕ → ℕ → Bool
may_be_finished orders a b = may_be_before orders (Start a) (Start b) && may_be_at orders (End a) (End b)

abbrev pub may_contain : List Order → ℕ → ℕ → Bool
may_contain orders a b = may_be_before orders (Start a) (Start b) && may_be_before orders (End b) (End a)

-- nothing that follows speaks against any of the comparisons that make the relation
abbrev pub is_open : List Order → ℕ → ℕ → Allen → Bool
is_open orders a b Before = may_be_before orders (End a) (Start b)
is_open orders a b Meets = may_be_at orders (End a) (Start b)
is_open orders a b Overlaps = may_overlap orders a b
is_open orders a b Finished = may_be_finished orders a b
is_open orders a b Contains = may_contain orders a b
is_open orders a b Starts = may_be_at orders (Start a) (Start b) && may_be_before orders (End a) (End b)
is_open orders a b Equal = may_be_at orders (Start a) (Start b) && may_be_at orders (End a) (End b)
is_open orders a b Started = may_be_at orders (Start a) (Start b) && may_be_before orders (End b) (End a)
is_open orders a b During = may_contain orders b a
is_open orders a b Finishes = may_be_finished orders b a
is_open orders a b Overlapped = may_overlap orders b a
is_open orders a b Met = may_be_at orders (End b) (Start a)
is_open orders a b After = may_be_before orders (End b) (Start a)

abbrev pub possible_relations : List Order → ℕ → ℕ → List Allen
possible_relations orders a b = filter (is_open orders a b) all_relations

-- one truth value for each relation, in their sequence
abbrev pub truth_of : (before meets overlaps finished contains starts equal started during finishes overlapped met after : Bool) → Allen → Bool
truth_of before meets overlaps finished contains starts equal started during finishes overlapped met after Before = before
truth_of before meets overlaps finished contains starts equal started during finishes overlapped met after Meets = meets
truth_of before meets overlaps finished contains starts equal started during finishes overlapped met after Overlaps = overlaps
truth_of before meets overlaps finished contains starts equal started during finishes overlapped met after Finished = finished
truth_of before meets overlaps finished contains starts equal started during finishes overlapped met after Contains = contains
truth_of before meets overlaps finished contains starts equal started during finishes overlapped met after Starts = starts
truth_of before meets overlaps finished contains starts equal started during finishes overlapped met after Equal = equal
truth_of before meets overlaps finished contains starts equal started during finishes overlapped met after Started = started
truth_of before meets overlaps finished contains starts equal started during finishes overlapped met after During = during
truth_of before meets overlaps finished contains starts equal started during finishes overlapped met after Finishes = finishes
truth_of before meets overlaps finished contains starts equal started during finishes overlapped met after Overlapped = overlapped
truth_of before meets overlaps finished contains starts equal started during finishes overlapped met after Met = met
truth_of before meets overlaps finished contains starts equal started during finishes overlapped met after After = after
