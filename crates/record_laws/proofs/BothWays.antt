-- What says the same is consistent alike, and what follows of it is the same.
use Rattle.std.proofs.Common.{◌≡◌, ℕ, Bool, true, false, sym, ap, subst, ◌∙◌}
use Rattle.std.specs.Prelude.{◌↔◌}
use Rattle.rdf_terms.specs.declared.terms.Term.{Term}
use Rattle.rdf_terms.specs.declared.triples.Records.{Records}
use Rattle.rdf_terms.specs.Naming.{NameLists}
use Rattle.rdf_terms.specs.Fitting.{is_literal, iri_of, literal_of}
use Rattle.order_laws.specs.declared.Point.{Point}
use Rattle.order_laws.specs.Chains.{Follows, HasCycle}
use Rattle.order_laws.specs.Placings.{IsConsistent}
use Rattle.boundary_orders.specs.Orders.{extent_number, is_numbered}
use Rattle.report_base.specs.Reports.{findings_from}
use Rattle.report_base.proofs.OrderSets.{order_set}
use Rattle.order_laws.proofs.Hold.{cycle_refutes}
use Rattle.order_laws.proofs.Placed.{consistent}
use Rattle.record_laws.specs.Renaming.{IsRenaming, Same, boundary}
use Rattle.record_laws.proofs.OneWay.{OneWay, one_way}
use Rattle.record_laws.proofs.Walking.{follows_becomes, cycle_becomes}
use Rattle.record_laws.proofs.Moving.{point_of, number_of_node, numbered_same, orders_become}

turned_names : (names other : NameLists) (m back : Term → Term) → IsRenaming names other m back → IsRenaming other names back m
turned_names names other m back r = record {
  iris = λ t. sym (r.iris (back t)) ∙ ap (iri_of other) (r.back_and_forth t);
  literals = λ t. sym (r.literals (back t)) ∙ ap (literal_of other) (r.back_and_forth t);
  sorts = λ t. sym (r.sorts (back t)) ∙ ap (λ (x : Term). is_literal x) (r.back_and_forth t);
  forth_and_back = r.back_and_forth;
  back_and_forth = r.forth_and_back;
}

turned : (r q : Records) (m back : Term → Term) → Same r q m back → Same q r back m
turned r q m back s = record {
  renaming = turned_names r.names q.names m back s.renaming;
  distinct = s.others_distinct;
  others_distinct = s.distinct;
  there = s.here;
  here = s.there;
}

one : (r q : Records) (m back : Term → Term) → Same r q m back → OneWay r.names r.triples q.names q.triples m
one r q m back s = one_way r.names q.names r.triples q.triples m back s

cycle_goes : (r q : Records) (m back : Term → Term) → Same r q m back → HasCycle (findings_from r).orders.list → HasCycle (findings_from q).orders.list
cycle_goes r q m back s =
    cycle_becomes (point_of r.names q.names r.triples q.triples m (one r q m back s)) (findings_from r).orders.list (findings_from q).orders.list
    (orders_become r.names q.names r.triples q.triples m (one r q m back s))

consistent_goes : (r q : Records) (m back : Term → Term) → Same r q m back
    → IsConsistent (findings_from r).orders.list (findings_from r).orders.dates (findings_from r).orders.extents → IsConsistent (findings_from q).orders.list (findings_from q).orders.dates (findings_from q).orders.extents
consistent_goes r q m back s c =
    consistent (findings_from q).orders.list (findings_from q).orders.extents (findings_from q).orders.dates (order_set q)
    (λ cycle. cycle_refutes (findings_from r).orders.list (findings_from r).orders.dates (findings_from r).orders.extents (cycle_goes q r back m (turned r q m back s) cycle) c)

pub consistent_alike : (r q : Records) (m back : Term → Term) → Same r q m back
    → IsConsistent (findings_from r).orders.list (findings_from r).orders.dates (findings_from r).orders.extents ↔ IsConsistent (findings_from q).orders.list (findings_from q).orders.dates (findings_from q).orders.extents
consistent_alike r q m back s = (consistent_goes r q m back s, consistent_goes q r back m (turned r q m back s))

moved_boundary : (r q : Records) (m back : Term → Term) (s : Same r q m back) (start : Bool) (node : Term) → is_numbered (findings_from r).extents node ≡ true
    → point_of r.names q.names r.triples q.triples m (one r q m back s) (boundary start (extent_number (findings_from r).extents node)) ≡ boundary start (extent_number (findings_from q).extents (m node))
moved_boundary r q m back s true node h = ap (λ (k : ℕ). boundary true k) (number_of_node r.names q.names r.triples q.triples m (one r q m back s) node h)
moved_boundary r q m back s false node h = ap (λ (k : ℕ). boundary false k) (number_of_node r.names q.names r.triples q.triples m (one r q m back s) node h)

follows_goes : (r q : Records) (m back : Term → Term) → Same r q m back → (a b : Term) → is_numbered (findings_from r).extents a ≡ true → is_numbered (findings_from r).extents b ≡ true → (i j strict : Bool)
    → Follows (findings_from r).orders.list (boundary i (extent_number (findings_from r).extents a)) (boundary j (extent_number (findings_from r).extents b)) strict
    → Follows (findings_from q).orders.list (boundary i (extent_number (findings_from q).extents (m a))) (boundary j (extent_number (findings_from q).extents (m b))) strict
follows_goes r q m back s a b ha hb i j strict f =
    subst (λ (x : Point). Follows (findings_from q).orders.list x (boundary j (extent_number (findings_from q).extents (m b))) strict) (moved_boundary r q m back s i a ha)
    (subst (λ (y : Point). Follows (findings_from q).orders.list (point_of r.names q.names r.triples q.triples m (one r q m back s) (boundary i (extent_number (findings_from r).extents a))) y strict) (moved_boundary r q m back s j b hb)
    (follows_becomes (point_of r.names q.names r.triples q.triples m (one r q m back s)) (findings_from r).orders.list (findings_from q).orders.list
    (orders_become r.names q.names r.triples q.triples m (one r q m back s)) _ _ strict f))

pub follows_alike : (r q : Records) (m back : Term → Term) → Same r q m back → (a b : Term) → is_numbered (findings_from r).extents a ≡ true → is_numbered (findings_from r).extents b ≡ true → (i j strict : Bool)
    → Follows (findings_from r).orders.list (boundary i (extent_number (findings_from r).extents a)) (boundary j (extent_number (findings_from r).extents b)) strict
    ↔ Follows (findings_from q).orders.list (boundary i (extent_number (findings_from q).extents (m a))) (boundary j (extent_number (findings_from q).extents (m b))) strict
follows_alike r q m back s a b ha hb i j strict = (
  follows_goes r q m back s a b ha hb i j strict,
  λ f. subst (λ (x : Term). Follows (findings_from r).orders.list (boundary i (extent_number (findings_from r).extents x)) (boundary j (extent_number (findings_from r).extents b)) strict) (s.renaming.forth_and_back a)
      (subst (λ (y : Term). Follows (findings_from r).orders.list (boundary i (extent_number (findings_from r).extents (back (m a)))) (boundary j (extent_number (findings_from r).extents y)) strict) (s.renaming.forth_and_back b)
      (follows_goes q r back m (turned r q m back s) (m a) (m b)
      (numbered_same r.names q.names r.triples q.triples m (one r q m back s) a ∙ ha) (numbered_same r.names q.names r.triples q.triples m (one r q m back s) b ∙ hb) i j strict f)),
)
