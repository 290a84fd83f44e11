-- The dates and the orders.
use Rattle.std.specs.Prelude.{ℕ, ℤ, pos, ◌≡◌, ◌^◌, ◌-ℤ◌, ◌<ℤ◌, ◌&&◌, Bool, true, false, cond, not, Option, Some, None, Result, Ok, Err, List, [], ◌∷◌, map, flat_map, length, int_lt, slice_index_or}
use Rattle.std.specs.List.{list_any, position_or_len, filter_map, fold}
use Rattle.std.specs.Option.{option_map}
use Rattle.std.specs.Ordering.{int_cmp}
use Rattle.std.specs.BTreeSet.{insert_key}
use Rattle.rdf_terms.specs.declared.terms.Term.{Term}
use Rattle.rdf_terms.specs.declared.terms.Triple.{Triple}
use Rattle.rdf_terms.specs.declared.terms.Literal.{Literal}
use Rattle.rdf_terms.specs.Terms.{same_term}
use Rattle.rdf_terms.specs.Naming.{NameLists}
use Rattle.rdf_terms.specs.Fitting.{literal_of}
use Rattle.time_primitive.specs.declared.DateFault.{DateFault}
use Rattle.time_primitive.specs.Dates.{date_of}
use Rattle.crm_type_check.specs.declared.Fault.{Fault}
use Rattle.crm_type_check.specs.Faults.{side_of}
use Rattle.order_laws.specs.declared.Point.{Point}
use Rattle.order_laws.specs.declared.Point.TheVariants.{Start, End, Date}
use Rattle.order_laws.specs.declared.By.TheVariants.{Triple as FromTriple}
use Rattle.order_laws.specs.declared.Order.{Order}
use Rattle.order_core.specs.Sets.{Orders, completed}
use Rattle.boundary_orders.specs.declared.statements.Statement.{Statement}
use Rattle.boundary_orders.specs.Statements.{is_dated, statements_of}
use Rattle.boundary_orders.specs.Extents.{extents_of}

abbrev pub ok_of : Result ℤ DateFault → Option ℤ
ok_of (Ok t) = Some t
ok_of (Err e) = None

abbrev pub instant_in : ℕ → Option Literal → Option ℤ
instant_in code None = None
instant_in code (Some l) = ok_of (date_of l.lexical l.datatype (side_of code))

-- the date of a statement that has one
abbrev pub instant_of : NameLists → Statement → Option ℤ
instant_of names s = cond (is_dated s.code) (instant_in s.code (literal_of names s.range)) None

-- more than -2 ^ 100 and less than 2 ^ 100 nanoseconds
abbrev pub IsInstant : ℤ → Type 0
IsInstant t = ((pos 0 -ℤ pos (2 ^ 100)) <ℤ t) × (t <ℤ pos (2 ^ 100))

-- the distinct dates of statements, ascending
abbrev pub dates_of : NameLists → List (ℕ × Statement) → List ℤ
dates_of names statements = fold (insert_key int_cmp) [] (filter_map (λ s. instant_of names s.1) statements)

-- a place of a rule: a boundary of the extent at the domain or at the range, or the date
pub data Spot : Type 0 where
  DomainStart : Spot
  DomainEnd : Spot
  RangeStart : Spot
  RangeEnd : Spot
  TheDate : Spot

pub record Rule : Type 0 where
  pub low : Spot
  pub high : Spot
  pub strict : Bool

abbrev at_most : Spot → Spot → Rule
at_most low high = record { low = low; high = high; strict = false }

abbrev before : Spot → Spot → Rule
before low high = record { low = low; high = high; strict = true }

-- the same start and the same end
abbrev same : List Rule
same = at_most DomainStart RangeStart ∷ at_most RangeStart DomainStart ∷ at_most DomainEnd RangeEnd ∷ at_most RangeEnd DomainEnd ∷ []

-- the domain lies within the range
abbrev inside : List Rule
inside = at_most RangeStart DomainStart ∷ at_most DomainEnd RangeEnd ∷ []

-- the rules by the number of the property: P173 to P176 and P182 to P185, P4, P160, P9, P10, P86, P82a, P81a, P81b, P82b, and the three
-- typed relations before, after and same
unfoldable pub rules : List (List Rule)
rules =
    (at_most DomainStart RangeEnd ∷ []) ∷
    (before DomainStart RangeEnd ∷ []) ∷
    (at_most DomainStart RangeStart ∷ []) ∷
    (before DomainStart RangeStart ∷ []) ∷
    (at_most DomainEnd RangeStart ∷ []) ∷
    (before DomainEnd RangeStart ∷ []) ∷
    (at_most DomainEnd RangeEnd ∷ []) ∷
    (before DomainEnd RangeEnd ∷ []) ∷
    same ∷
    same ∷
    (at_most DomainStart RangeStart ∷ at_most RangeEnd DomainEnd ∷ []) ∷
    inside ∷
    inside ∷
    (at_most TheDate DomainStart ∷ []) ∷
    (at_most DomainStart TheDate ∷ []) ∷
    (at_most TheDate DomainEnd ∷ []) ∷
    (at_most DomainEnd TheDate ∷ []) ∷
    (at_most DomainEnd RangeStart ∷ []) ∷
    (at_most RangeEnd DomainStart ∷ []) ∷
    same ∷
    []

abbrev pub rules_of : ℕ → List Rule
rules_of code = slice_index_or rules code []

-- the point of a place, by the number of the extent at the domain and that of the extent at the range or of the date
abbrev pub point_at : ℕ → ℕ → Spot → Point
point_at domain range DomainStart = Start domain
point_at domain range DomainEnd = End domain
point_at domain range RangeStart = Start range
point_at domain range RangeEnd = End range
point_at domain range TheDate = Date range

abbrev pub order_by : ℕ → ℕ → ℕ → Rule → Order
order_by triple domain range r =
    record { low = point_at domain range r.low; high = point_at domain range r.high; strict = r.strict; by = FromTriple triple }

abbrev pub extent_number : List (Term × Bool) → Term → ℕ
extent_number extents node = position_or_len (λ e. same_term node e.0) extents

-- the node is one of the extents
abbrev pub is_numbered : List (Term × Bool) → Term → Bool
is_numbered extents node = list_any (λ e. same_term node e.0) extents

-- the resource ends of a statement are extents
pub record AreNumbered (extents : List (Term × Bool)) (s : Statement) : Type 0 where
  pub domain : is_numbered extents s.domain ≡ true
  pub range : is_dated s.code ≡ false → is_numbered extents s.range ≡ true

abbrev pub same_instant : ℤ → ℤ → Bool
same_instant a b = not (int_lt a b) && not (int_lt b a)

-- the date, where there is one, is one of the dates
abbrev pub is_held : List ℤ → Option ℤ → Bool
is_held dates None = true
is_held dates (Some t) = list_any (same_instant t) dates

-- the number of a date among ascending ones
abbrev pub date_number : List ℤ → ℤ → ℕ
date_number dates t = position_or_len (same_instant t) dates

-- the number of the extent at the range, or of the date; a triple without fault has its date
abbrev pub range_number : NameLists → List (Term × Bool) → List ℤ → Statement → Option ℕ
range_number names extents dates s =
    cond (is_dated s.code) (option_map (date_number dates) (instant_of names s)) (Some (extent_number extents s.range))

abbrev pub orders_with : ℕ × Statement → ℕ → Option ℕ → List Order
orders_with s domain None = []
orders_with s domain (Some range) = map (order_by s.0 domain range) (rules_of s.1.code)

-- the orders of a statement in their sequence
abbrev pub orders_by : NameLists → List (Term × Bool) → List ℤ → ℕ × Statement → List Order
orders_by names extents dates s = orders_with s (extent_number extents s.1.domain) (range_number names extents dates s.1)

abbrev pub statement_orders : NameLists → List (Term × Bool) → List ℤ → List (ℕ × Statement) → List Order
statement_orders names extents dates statements = flat_map (orders_by names extents dates) statements

-- the orders of all statements, then those of the extents, then those of neighbouring dates
abbrev pub orders_in : NameLists → List (Term × Bool) → List (ℕ × Statement) → Orders
orders_in names extents statements = record {
  extents = length extents;
  dates = dates_of names statements;
  list = completed (length extents) (length (dates_of names statements)) (statement_orders names extents (dates_of names statements) statements);
}

abbrev pub orders_of : NameLists → List (ℕ × Triple) → List Fault → Orders
orders_of names triples faults = orders_in names (extents_of names triples faults) (statements_of names triples faults)
