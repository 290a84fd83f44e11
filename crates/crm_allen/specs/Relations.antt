-- Each relation of two extents as orders between their boundaries, and when it is possible.
use Rattle.std.specs.Prelude.{ℕ, Bool, true, false, List, [], ◌∷◌, ◌++◌}
use Rattle.order_laws.specs.declared.Order.{Order}
use Rattle.order_laws.specs.declared.Point.{Point}
use Rattle.order_laws.specs.declared.Point.TheVariants.{Start, End}
use Rattle.order_laws.specs.declared.By.TheVariants.{Dates}
use Rattle.order_laws.specs.declared.Position.{Position}
use Rattle.order_laws.specs.Placings.{IsConsistent}
use Rattle.order_laws.specs.Wider.{plain_placing}
use Rattle.order_core.specs.Sets.{Orders}
use Rattle.crm_allen.specs.declared.relations.Allen.{Allen}
use Rattle.crm_allen.specs.declared.relations.Allen.TheVariants.{Before, Meets, Overlaps, Finished, Contains, Starts, Equal, Started, During, Finishes, Overlapped, Met, After}

-- An order that is assumed. It comes from nowhere: what stands for its source is never read.
abbrev pub assumed : Point → Point → Bool → Order
assumed x y strict = record { low = x; high = y; strict = strict; by = Dates }

abbrev pub before : Point → Point → Order
before x y = assumed x y true

-- x is at y: x is at or before y, and y at or before x
abbrev pub at : Point → Point → List Order
at x y = assumed x y false ∷ assumed y x false ∷ []

abbrev pub before_orders : ℕ → ℕ → List Order
before_orders a b = before (End a) (Start b) ∷ []

abbrev pub meets_orders : ℕ → ℕ → List Order
meets_orders a b = at (End a) (Start b)

abbrev pub overlaps_orders : ℕ → ℕ → List Order
overlaps_orders a b = before (Start a) (Start b) ∷ before (Start b) (End a) ∷ before (End a) (End b) ∷ []

abbrev pub finished_orders : ℕ → ℕ → List Order
finished_orders a b = before (Start a) (Start b) ∷ at (End a) (End b)

abbrev pub contains_orders : ℕ → ℕ → List Order
contains_orders a b = before (Start a) (Start b) ∷ before (End b) (End a) ∷ []

abbrev pub starts_orders : ℕ → ℕ → List Order
starts_orders a b = at (Start a) (Start b) ++ before (End a) (End b) ∷ []

abbrev pub equal_orders : ℕ → ℕ → List Order
equal_orders a b = at (Start a) (Start b) ++ at (End a) (End b)

abbrev pub started_orders : ℕ → ℕ → List Order
started_orders a b = at (Start a) (Start b) ++ before (End b) (End a) ∷ []

-- the orders that give the relation of a to b; a converse has those of its relation with a and b exchanged
abbrev pub relation_orders : Allen → ℕ → ℕ → List Order
relation_orders Before a b = before_orders a b
relation_orders Meets a b = meets_orders a b
relation_orders Overlaps a b = overlaps_orders a b
relation_orders Finished a b = finished_orders a b
relation_orders Contains a b = contains_orders a b
relation_orders Starts a b = starts_orders a b
relation_orders Equal a b = equal_orders a b
relation_orders Started a b = started_orders a b
relation_orders During a b = contains_orders b a
relation_orders Finishes a b = finished_orders b a
relation_orders Overlapped a b = overlaps_orders b a
relation_orders Met a b = meets_orders b a
relation_orders After a b = before_orders b a

-- some placing satisfies all orders of the set, and has the relation
abbrev pub IsPossible : Orders → ℕ → ℕ → Allen → Type 0
IsPossible set a b r = IsConsistent (set.list ++ relation_orders r a b) set.dates set.extents

-- the plain placing of the orders with those of the relation
abbrev pub example_placing : Orders → ℕ → ℕ → Allen → List Position
example_placing set a b r = plain_placing (set.list ++ relation_orders r a b) set.extents set.dates
