-- What is found alike in two archives, where each term of the one becomes one of the other.
use Rattle.std.specs.Prelude.{◌≡◌, ◌↔◌, Bool, true}
use Rattle.rdf_terms.specs.declared.terms.Term.{Term}
use Rattle.rdf_terms.specs.declared.terms.Triple.{Triple}
use Rattle.rdf_terms.specs.declared.triples.Records.{Records}
use Rattle.triple_pool.specs.Pool.{number_from}
use Rattle.crm_type_check.specs.Relations.{kinds_of}
use Rattle.boundary_orders.specs.Extents.{kind_of, standings_of}
use Rattle.boundary_orders.specs.Orders.{extent_number, is_numbered}
use Rattle.order_laws.specs.Chains.{Follows}
use Rattle.order_laws.specs.Placings.{IsConsistent}
use Rattle.report_base.specs.Reports.{faults_in, findings_from}
use Rattle.record_laws.specs.Renaming.{IsRenamed, boundary}

pub record AgreeUpTo (m : Term → Term) (r q : Records) : Type 0 where
  -- A triple has the same kinds of faults.
  pub faults : (t u : Triple) → IsRenamed m t u → kinds_of q.names (number_from 0 q.triples) u ≡ kinds_of r.names (number_from 0 r.triples) t
  -- The same nodes are extents, and the same are periods.
  pub extents : (node : Term) → kind_of (standings_of q.names (number_from 0 q.triples) (faults_in q)) (m node) ≡ kind_of (standings_of r.names (number_from 0 r.triples) (faults_in r)) node
  -- Both are consistent or neither is.
  pub consistency : let ours = (findings_from r).orders in let theirs = (findings_from q).orders in
      IsConsistent ours.list ours.dates ours.extents ↔ IsConsistent theirs.list theirs.dates theirs.extents
  -- From a boundary of an extent to one of another the same follows.
  pub follows : (a b : Term) → let ours = findings_from r in let theirs = findings_from q in
      is_numbered ours.extents a ≡ true → is_numbered ours.extents b ≡ true → (i j strict : Bool) →
      Follows ours.orders.list (boundary i (extent_number ours.extents a)) (boundary j (extent_number ours.extents b)) strict
      ↔ Follows theirs.orders.list (boundary i (extent_number theirs.extents (m a))) (boundary j (extent_number theirs.extents (m b))) strict
