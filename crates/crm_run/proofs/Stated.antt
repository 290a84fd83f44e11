-- Triples make the orders of statements.
use Rattle.std.proofs.Common.{ℕ, ℤ, Bool, List, Option, Some, None, get_or, refl}
use Rattle.std.specs.List.{All}
use Rattle.std.proofs.lemmas.List.Elements.{All-map, All-nil}
use Rattle.rdf_terms.specs.declared.terms.Term.{Term}
use Rattle.rdf_terms.specs.declared.triples.Records.{Records}
use Rattle.rdf_terms.specs.Naming.{NameLists}
use Rattle.triple_pool.specs.Pool.{number_from}
use Rattle.order_laws.specs.declared.Order.{Order}
use Rattle.boundary_orders.specs.declared.statements.Statement.{Statement}
use Rattle.boundary_orders.specs.Orders.{extent_number, order_by, orders_by, orders_with, range_number, rules_of, statement_orders}
use Rattle.boundary_orders.specs.Statements.{statements_of}
use Rattle.boundary_orders.proofs.Pointing.{all_pieces}
use Rattle.report_base.specs.Reports.{faults_in, findings_from}
use Rattle.crm_run.specs.Headline.{IsStated}

made_by : (names : NameLists) (extents : List (Term × Bool)) (dates : List ℤ) (s : ℕ × Statement) → All IsStated (orders_by names extents dates s)
made_by names extents dates s = by (range_number names extents dates s.1)
  where
    by : (o : Option ℕ) → All IsStated (orders_with s (extent_number extents s.1.domain) o)
    by None = All-nil (λ (x : Order). IsStated x)
    by (Some k) = All-map (λ (x : Order). IsStated x) (order_by s.0 (extent_number extents s.1.domain) k) (rules_of s.1.code) (λ i d l. (s.0, refl))

-- the orders that the statements of records make
abbrev pub stated : Records → List Order
stated r =
    statement_orders r.names (findings_from r).extents (findings_from r).orders.dates (statements_of r.names (number_from 0 r.triples) (faults_in r))

pub all_stated : (r : Records) → All IsStated (stated r)
all_stated r =
    all_pieces (λ (x : Order). IsStated x) (orders_by r.names (findings_from r).extents (findings_from r).orders.dates)
    (statements_of r.names (number_from 0 r.triples) (faults_in r))
    (λ k d l. made_by r.names (findings_from r).extents (findings_from r).orders.dates (get_or (statements_of r.names (number_from 0 r.triples) (faults_in r)) k d))
