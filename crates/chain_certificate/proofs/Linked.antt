-- The orders of a set as links, and what a walk along edges says of them.
use Rattle.std.proofs.Common.{◌≡◌, ℕ, ◌<◌, length, arith, refl, sym, ap, ◌∙◌}
use Rattle.std.proofs.lemmas.List.{get_or-map, length-map}
use Rattle.order_laws.specs.declared.Order.{Order}
use Rattle.order_laws.specs.Chains.{order_at, no_order}
use Rattle.order_laws.specs.Points.{number_of}
use Rattle.order_core.specs.Sets.{Orders}
use Rattle.order_closure.specs.declared.links.Link.{Link}
use Rattle.order_closure.specs.Next.{IsNext}
use Rattle.order_closure.specs.Links.{IsLinksOf, link_at, low_of, no_link}
use Rattle.order_closure.specs.Edges.{EdgeLists, IsEdgesOf, low_at}
use Rattle.order_closure.proofs.Linking.{next_same}
use Rattle.chain_certificate.specs.Routes.{links_of}

abbrev link_from : ℕ → Order → Link
link_from extents o = record { low = number_of extents o.low; high = number_of extents o.high; strict = o.strict; next = 0 }

pub link_is : (set : Orders) (n : ℕ) → n < length set.list → link_at (links_of set) n ≡ link_from set.extents (order_at set.list n)
link_is set n h = get_or-map (link_from set.extents) set.list n no_order no_link h

pub count_is : (set : Orders) → length (links_of set) ≡ length set.list
count_is set = length-map set.list (link_from set.extents)

pub links_are : (set : Orders) → IsLinksOf set.extents set.list (links_of set)
links_are set = record {
  size = count_is set;
  low = λ n h. ap (λ (k : Link). k.low) (link_is set n h);
  high = λ n h. ap (λ (k : Link). k.high) (link_is set n h);
  strict = λ n h. ap (λ (k : Link). k.strict) (link_is set n h);
}

pub next_link : (set : Orders) (edges : EdgeLists) → IsEdgesOf set edges → (p from at : ℕ) →
    IsNext (low_at edges) (length edges.lows) p from at → IsNext (low_of (links_of set)) (length (links_of set)) p from at
next_link set edges of p from at s =
    let count : length (links_of set) ≡ length edges.lows = count_is set ∙ sym of.count in
    rw count (next_same (low_at edges) (low_of (links_of set)) (length edges.lows) p p from at
    (λ m l. (let lt : m < length set.list = omega (arith, of.count) in ap (λ (k : Link). k.low) (link_is set m lt) ∙ sym (of.low m lt))) refl s)

pub low_is : (set : Orders) (edges : EdgeLists) → IsEdgesOf set edges → (n : ℕ) → n < length edges.lows → low_at edges n ≡ (link_at (links_of set) n).low
low_is set edges of n l =
    let lt : n < length set.list = omega (arith, of.count) in
    of.low n lt ∙ sym (ap (λ (k : Link). k.low) (link_is set n lt))
