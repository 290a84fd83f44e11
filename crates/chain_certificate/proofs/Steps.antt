-- The steps of the loop that takes the orders of a node.
use Rattle.std.proofs.Common.{◌≡◌, ℕ, List, Bool, ◌+◌, ◌*◌, ◌<◌, cond, length, get_or, drop, arith, refl, subst, ap, sym, ◌∙◌}
use Rattle.std.specs.Prelude.{◌||◌}
use Rattle.std.proofs.lemmas.List.{get_or_read}
use Rattle.order_laws.specs.declared.Order.{Order}
use Rattle.order_laws.specs.declared.Point.{Point}
use Rattle.order_laws.specs.Chains.{order_at}
use Rattle.order_laws.specs.Points.{number_of}
use Rattle.order_core.specs.Sets.{Orders}
use Rattle.order_closure.specs.declared.links.Link.{Link}
use Rattle.order_closure.specs.Next.{IsNext}
use Rattle.order_closure.specs.Links.{link_at, low_of}
use Rattle.order_closure.specs.Edges.{EdgeLists, IsEdgesOf, low_at}
use Rattle.order_closure.specs.Search.{place}
use Rattle.order_closure.proofs.State.{place_within}
use Rattle.chain_certificate.specs.declared.tree.Node.{Node}
use Rattle.chain_certificate.specs.Counts.{leaves, steps_left}
use Rattle.chain_certificate.specs.Routes.{points_of, links_of}
use Rattle.chain_certificate.specs.Tree.{no_node, node_at, pair_at, pair_of, IsSearching, IsTaking, nodes_after, node_of_after}
use Rattle.chain_certificate.proofs.Counts.{leaves_to, leaves_one, met_left}
use Rattle.chain_certificate.proofs.Linked.{link_is, count_is, next_link, low_is}
use Rattle.chain_certificate.proofs.Taking.{taking_none, taking_more, taking_all}

pub read_node : (nodes : List Node) (h : ℕ) (from : Node) → h < length nodes → from ≡ get_or nodes h from → node_at nodes h ≡ from
read_node nodes h from l e = sym (get_or_read nodes h from l e no_node)

module _ (set : Orders) (edges : EdgeLists) (of : IsEdgesOf set edges) (source : ℕ) (nodes : List Node) (node_of : List ℕ) (h : ℕ) where
  pub take_none : (walk extents : ℕ) (point : Point) (from : Node) → h < length nodes → from ≡ get_or nodes h from → extents ≡ set.extents →
      number_of extents point ≡ from.point → IsNext (low_at edges) (length edges.lows) (number_of edges.extents point) 0 walk →
      IsSearching (points_of set) (links_of set) source nodes node_of h 0 →
      IsTaking (points_of set) (links_of set) source nodes node_of h walk from.point from.strict
      × (leaves (drop walk edges.lows) (place (pair_at nodes h)) ≡ leaves edges.lows (place (pair_at nodes h)))
  take_none walk extents point from l read is_extents is_number next s =
      let is_from : node_at nodes h ≡ from = read_node nodes h from l read in
      let e : number_of edges.extents point ≡ (node_at nodes h).point =
      ap (λ (n : ℕ). number_of n point) (of.extents ∙ sym is_extents) ∙ is_number ∙ sym (ap (λ (z : Node). z.point) is_from) in
      let P : ℕ → Type 0 = λ z. IsNext (low_at edges) (length edges.lows) z 0 walk in
      let next' : IsNext (low_at edges) (length edges.lows) (node_at nodes h).point 0 walk = subst P e next in
      let Q : Node → Type 0 = λ z. IsTaking (points_of set) (links_of set) source nodes node_of h walk z.point z.strict in (
        subst Q is_from (taking_none (points_of set) (links_of set) source nodes node_of h walk (next_link set edges of (node_at nodes h).point 0 walk next') s l),
        sym (leaves_to edges.lows (node_at nodes h).point (node_at nodes h).strict 0 walk next'),
      )

  pub take_more : (at next point : ℕ) (strict : Bool) (order : Order) (high : ℕ) (flag : Bool) →
      IsTaking (points_of set) (links_of set) source nodes node_of h at point strict → at < length edges.lows →
      IsNext (low_at edges) (length edges.lows) (low_at edges at) (at + 1) next →
      order ≡ order_at set.list at → high ≡ number_of set.extents order.high → high < points_of set → flag ≡ (strict || order.strict) →
      IsTaking (points_of set) (links_of set) source (nodes_after node_of nodes (record { point = high; strict = flag; parent = h; order = at }))
      (node_of_after node_of nodes (record { point = high; strict = flag; parent = h; order = at })) h next point strict
      × (leaves (drop at edges.lows) (2 * point + cond strict 1 0) ≡ 1 + leaves (drop next edges.lows) (2 * point + cond strict 1 0))
      × (steps_left edges.lows source (nodes_after node_of nodes (record { point = high; strict = flag; parent = h; order = at }))
      (node_of_after node_of nodes (record { point = high; strict = flag; parent = h; order = at })) (h + 1)
      ≡ steps_left edges.lows source nodes node_of (h + 1))
  take_more at next point strict order high flag s l step is_order is_high in_high is_flag =
      let lt : at < length set.list = omega (arith, of.count, l) in
      let lt' : at < length (links_of set) = omega (arith, count_is set, lt) in
      let link : Link = link_at (links_of set) at in
      let high_is : high ≡ link.high = is_high ∙ ap (λ (o : Order). number_of set.extents o.high) is_order ∙ sym (ap (λ (k : Link). k.high) (link_is set at lt)) in
      let flag_is : flag ≡ (strict || link.strict) = is_flag ∙ ap (λ (o : Order). strict || o.strict) is_order ∙ sym (ap (λ (k : Link). strict || k.strict) (link_is set at lt)) in
      let x : Node = record { point = high; strict = flag; parent = h; order = at } in
      let R : ℕ → Type 0 = λ n. x ≡ record { point = n; strict = strict || link.strict; parent = h; order = at } in
      let S : Bool → Type 0 = λ b. x ≡ record { point = high; strict = b; parent = h; order = at } in
      let is_x : x ≡ record { point = link.high; strict = strict || link.strict; parent = h; order = at } = subst R high_is (subst S flag_is refl) in
      let in_link : link.high < points_of set = omega (arith, high_is, in_high) in
      let low : low_at edges at ≡ link.low = low_is set edges of at l in
      let P : ℕ → Type 0 = λ z. IsNext (low_of (links_of set)) (length (links_of set)) z (at + 1) next in
      let step' : IsNext (low_of (links_of set)) (length (links_of set)) link.low (at + 1) next = subst P low (next_link set edges of (low_at edges at) (at + 1) next step) in
      let starts : low_at edges at ≡ point = low ∙ s.starts lt' in
      let Q : ℕ → Type 0 = λ z. IsNext (low_at edges) (length edges.lows) z (at + 1) next in (
        taking_more (points_of set) (links_of set) source nodes node_of h at next point strict x in_link step' s lt' is_x,
        leaves_one edges.lows point strict at next l starts (subst Q starts step),
        met_left edges.lows source nodes node_of (h + 1) x (omega (arith, s.head)) (omega (arith, s.head))
            (omega (arith, place_within (pair_of x) (points_of set) in_high, s.searching.tree.size)),
      )

  pub take_all : (at point : ℕ) (strict : Bool) → IsTaking (points_of set) (links_of set) source nodes node_of h at point strict →
      at ≡ length edges.lows → IsSearching (points_of set) (links_of set) source nodes node_of (h + 1) 0
  take_all at point strict s e =
      taking_all (points_of set) (links_of set) source nodes node_of h at point strict s (omega (arith, e, of.count, count_is set))
