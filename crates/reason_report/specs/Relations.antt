-- The relations of periods that follow from a list of orders.
use Rattle.std.specs.Prelude.{ℕ, ◌==◌, true, false, List, [], ◌∷◌, if◌then◌else◌}
use Rattle.std.specs.List.{flat_map, sum_by}
use Rattle.order_laws.specs.declared.Order.{Order}
use Rattle.order_laws.specs.declared.Reach.{Reach}
use Rattle.order_laws.specs.declared.Reach.TheVariants.{None as Nothing, Le, Lt}
use Rattle.order_core.specs.declared.sides.Side.{Side}
use Rattle.order_core.specs.Sides.{all_sides}
use Rattle.order_analysis.specs.Reasons.{reach_at}
use Rattle.reason_report.specs.declared.relations.Relation.{Relation}

-- what follows from one boundary to another as a relation, if anything does
abbrev pub relation_by : ℕ → ℕ → Side → Reach → List Relation
relation_by a b side Nothing = []
relation_by a b side Le = record { left = a; right = b; side = side; strict = false } ∷ []
relation_by a b side Lt = record { left = a; right = b; side = side; strict = true } ∷ []

abbrev pub relation_at : List Order → ℕ → ℕ → Side → List Relation
relation_at orders a b side = relation_by a b side (reach_at orders a b side)

-- of two periods, side by side; a period has none to itself
abbrev pub relations_between : List Order → ℕ → ℕ → List Relation
relations_between orders a b = if a == b then [] else flat_map (relation_at orders a b) all_sides

-- of one period to each
abbrev pub relations_from : List Order → List ℕ → ℕ → List Relation
relations_from orders periods a = flat_map (relations_between orders a) periods

-- of each period to each
abbrev pub relations_of : List Order → List ℕ → List Relation
relations_of orders periods = flat_map (relations_from orders periods) periods

-- a relation lists its weak primitive, and where it is strict the strict one too
abbrev pub primitives_listed : Relation → ℕ
primitives_listed r = if r.strict then 2 else 1

abbrev pub count_primitives : List Relation → ℕ
count_primitives = sum_by primitives_listed
