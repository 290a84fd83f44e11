-- What is found of extents and orders, and the limits.
use Rattle.std.specs.Prelude.{suc, ℕ, ◌≡◌, ◌<◌, ◌≤◌, Bool, true, cond, Option, is_some, Some, None, List, [], ◌∷◌, length, ⊤}
use Rattle.std.specs.List.{All}
use Rattle.std.specs.List.Sorted.{IsStrictlyIncreasing}
use Rattle.rdf_terms.specs.declared.terms.Term.{Term}
use Rattle.rdf_terms.specs.declared.terms.Triple.{Triple}
use Rattle.rdf_terms.specs.Naming.{NameLists}
use Rattle.crm_type_check.specs.declared.Fault.{Fault}
use Rattle.triple_pool.specs.Pool.{triple_of}
use Rattle.order_laws.specs.declared.By.{By}
use Rattle.order_laws.specs.declared.By.TheVariants.{Triple as FromTriple, Extent, Dates as ByDates}
use Rattle.order_core.specs.Sets.{Orders}
use Rattle.boundary_orders.specs.declared.statements.Statement.{Statement}
use Rattle.boundary_orders.specs.declared.faults.BuildFault.{BuildFault}
use Rattle.boundary_orders.specs.declared.faults.BuildFault.TheVariants.{Extents as TooManyExtents, Dates as TooManyDates, Orders as TooManyOrders, Memory}
use Rattle.boundary_orders.specs.Statements.{statements_of}
use Rattle.boundary_orders.specs.Extents.{extents_of}
use Rattle.boundary_orders.specs.Orders.{orders_in}

-- the extents by number, each with whether it is a period; the numbers of the periods; and the orders
pub record Findings : Type 0 where
  pub extents : List (Term × Bool)
  pub periods : List ℕ
  pub orders : Orders

-- the numbers of the periods, where the first extent of the list has number n
abbrev pub periods_from : ℕ → List (Term × Bool) → List ℕ
periods_from n [] = []
periods_from n (e ∷ es) = cond e.1 (n ∷ periods_from (suc n) es) (periods_from (suc n) es)

-- the number, where it is that of a period
abbrev pub number_where : ℕ → Option (Term × Bool) → List ℕ
number_where n None = []
number_where n (Some e) = cond e.1 (n ∷ []) []

abbrev pub findings_in : NameLists → List (Term × Bool) → List (ℕ × Statement) → Findings
findings_in names extents statements =
    record { extents = extents; periods = periods_from 0 extents; orders = orders_in names extents statements }

-- what the triples say, of which these are all faults
abbrev pub findings_of : NameLists → List (ℕ × Triple) → List Fault → Findings
findings_of names triples faults = findings_in names (extents_of names triples faults) (statements_of names triples faults)

-- what the parts of a dossier keep
pub record IsKept (extents : List (Term × Bool)) (periods : List ℕ) (count : ℕ) : Type 0 where
  pub few : length extents ≤ 2048
  pub counted : count ≡ length extents
  pub numbered : periods ≡ periods_from 0 extents

-- what every dossier keeps: the periods are numbers of extents, ascending
pub record IsWhole (found : Findings) : Type 0 where
  pub few_extents : length found.extents ≤ 2048
  pub few_periods : length found.periods ≤ 2048
  pub counted : found.orders.extents ≡ length found.extents
  pub numbered : found.periods ≡ periods_from 0 found.extents
  pub ascending : IsStrictlyIncreasing found.periods
  pub within : All (λ k. k < length found.extents) found.periods

-- at most 2,048 extents, 2,048 dates and 65,536 orders
pub record AreFew (found : Findings) : Type 0 where
  pub extents : length found.extents ≤ 2048
  pub dates : length found.orders.dates ≤ 2048
  pub orders : length found.orders.list ≤ 65536

-- the first limit that is passed, with the count
abbrev pub IsPassed : Findings → BuildFault → Type 0
IsPassed found (TooManyExtents n) = (n ≡ length found.extents) × (2048 < n)
IsPassed found (TooManyDates n) = (length found.extents ≤ 2048) × (n ≡ length found.orders.dates) × (2048 < n)
IsPassed found (TooManyOrders n) =
    (length found.extents ≤ 2048) × (length found.orders.dates ≤ 2048) × (n ≡ length found.orders.list) × (65536 < n)
IsPassed found Memory = ⊤

-- an order that a triple gives has the number of one
abbrev pub IsSourced : List (ℕ × Triple) → By → Type 0
IsSourced triples (FromTriple n) = is_some (triple_of n triples) ≡ true
IsSourced triples (Extent k) = ⊤
IsSourced triples ByDates = ⊤
