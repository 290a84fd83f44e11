-- The orders of records are a set of orders, and their periods are extents.
use Rattle.std.proofs.Common.{ℕ, ℤ, Bool, List, length}
use Rattle.std.specs.List.{filter_map}
use Rattle.rdf_terms.specs.declared.terms.Term.{Term}
use Rattle.rdf_terms.specs.declared.triples.Records.{Records}
use Rattle.triple_pool.specs.Pool.{number_from}
use Rattle.order_core.proofs.Completed.{completed_is_set}
use Rattle.order_laws.specs.Tables.{IsOrderSet}
use Rattle.order_core.specs.Sets.{AreExtents}
use Rattle.boundary_orders.specs.declared.statements.Statement.{Statement}
use Rattle.boundary_orders.specs.Statements.{statements_of}
use Rattle.boundary_orders.specs.Extents.{extents_of}
use Rattle.boundary_orders.specs.Orders.{instant_of, dates_of, statement_orders}
use Rattle.boundary_orders.proofs.Holding.{ascends}
use Rattle.boundary_orders.proofs.Pointing.{points_in_range}
use Rattle.boundary_orders.proofs.Within.{extents_cover}
use Rattle.report_base.specs.Reports.{faults_in, findings_from}
use Rattle.report_base.proofs.DatesSorted.{ascending}
use Rattle.report_base.proofs.Periods.{periods_within}

pub order_set : (r : Records) → IsOrderSet (findings_from r).orders.list (findings_from r).orders.extents (findings_from r).orders.dates
order_set r =
    let statements : List (ℕ × Statement) = statements_of r.names (number_from 0 r.triples) (faults_in r) in
    let extents : List (Term × Bool) = extents_of r.names (number_from 0 r.triples) (faults_in r) in
    let dates : List ℤ = dates_of r.names statements in
    completed_is_set (length extents) dates (statement_orders r.names extents dates statements)
    (ascends dates (ascending (filter_map (λ (s : ℕ × Statement). instant_of r.names s.1) statements)))
    (points_in_range r.names extents statements (extents_cover r.names (number_from 0 r.triples) (faults_in r)))

pub periods_are_extents : (r : Records) → AreExtents (findings_from r).orders.extents (findings_from r).periods
periods_are_extents r = periods_within (findings_from r).extents
