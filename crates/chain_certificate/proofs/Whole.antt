-- A search from its first node to its end.
use Rattle.std.proofs.Common.{zero, suc, ◌≡◌, ℕ, List, [], ◌∷◌, Bool, true, false, cond, ◌+◌, ◌*◌, ◌<◌, length, get_or, replicate, arith, inl, inr, subst, sym}
use Rattle.std.proofs.lemmas.Bool.{cases_eq}
use Rattle.order_laws.specs.Chains.{order_at}
use Rattle.order_core.specs.Sets.{Orders, IsSet}
use Rattle.order_closure.specs.declared.links.Link.{Link}
use Rattle.order_closure.specs.Search.{Pair}
use Rattle.order_closure.specs.Edges.{EdgeLists, IsEdgesOf}
use Rattle.order_closure.specs.Search.{place}
use Rattle.order_closure.proofs.Linking.{number_within}
use Rattle.chain_certificate.specs.declared.tree.Node.{Node}
use Rattle.chain_certificate.specs.Counts.{leaves, steps_left, unmet, weight}
use Rattle.chain_certificate.specs.Routes.{points_of, IsReadable}
use Rattle.chain_certificate.specs.Tree.{pair_at, IsSearching}
use Rattle.chain_certificate.proofs.Counts.{all_left}
use Rattle.chain_certificate.proofs.Taking.{searching_none}

pub search_begins : (points count : ℕ) (links : List Link) (source : ℕ) (nodes : List Node) (node_of : List ℕ) (x : Node) →
    x ≡ record { point = source; strict = false; parent = 0; order = 0 } → nodes ≡ x ∷ [] → node_of ≡ replicate {A = ℕ} (2 * count) 0 → count ≡ points →
    source < points → IsSearching points links source nodes node_of 0 0
search_begins points count links source nodes node_of x is_x is_nodes is_node_of is_count l =
    rw (is_nodes, is_node_of, is_count) (searching_none points links source x is_x l)

pub low_within : (set : Orders) (edges : EdgeLists) → IsSet set.extents set.dates set.list → IsEdgesOf set edges →
    (n : ℕ) → n < length edges.lows → get_or edges.lows n 0 < points_of set
low_within set edges s of n l =
    let lt : n < length set.list = omega (arith, of.count) in
    omega (arith, of.low n lt, number_within set.extents (length set.dates) (order_at set.list n).low (s.orders.low_in_range n lt))

pub steps_begin : (set : Orders) (edges : EdgeLists) (count source : ℕ) (nodes : List Node) (node_of : List ℕ) (x : Node) →
    IsSet set.extents set.dates set.list → IsEdgesOf set edges →
    x ≡ record { point = source; strict = false; parent = 0; order = 0 } → nodes ≡ x ∷ [] → node_of ≡ replicate {A = ℕ} (2 * count) 0 → count ≡ points_of set →
    source < points_of set →
    (leaves edges.lows (place (pair_at nodes 0)) + 1) + steps_left edges.lows source nodes node_of 1 ≡ 2 * length set.list + 2 * points_of set
steps_begin set edges count source nodes node_of x s of is_x is_nodes is_node_of is_count l =
    rw (is_nodes, is_x, is_node_of, is_count)
    (let same : 2 * source + 0 ≡ 2 * source = omega arith in
    let P : ℕ → Type 0 = λ z. (leaves edges.lows z + 1) + (0 + unmet (weight edges.lows source) (replicate {A = ℕ} (2 * points_of set) 0)) ≡ 2 * length set.list + 2 * points_of set in
    subst P (sym same) (omega (arith, of.count, all_left edges.lows (points_of set) source (low_within set edges s of) l)))

pair_of_place : (i : ℕ) → (q : Pair) × (place q ≡ i)
pair_of_place zero = (record { point = 0; strict = false }, omega arith)
pair_of_place (suc i) =
    let old = pair_of_place i in
    next_pair i old.0.point old.0.strict old.1
  where
    next_pair : (i point : ℕ) (strict : Bool) → 2 * point + cond strict 1 0 ≡ i → (q : Pair) × (place q ≡ suc i)
    next_pair i point true e = (record { point = point + 1; strict = false }, omega arith)
    next_pair i point false e = (record { point = point; strict = true }, omega arith)

pub readable_of : (points : ℕ) (links : List Link) (source : ℕ) (nodes : List Node) (node_of : List ℕ) (h : ℕ) →
    IsSearching points links source nodes node_of h 0 → IsReadable points nodes node_of
readable_of points links source nodes node_of h s = record {
  size = s.tree.size;
  within = λ i l. elim (cases_eq (get_or node_of i 0) 0) [
    | inl none ↦ omega (arith, none, s.tree.some)
    | inr some ↦
        (let q = pair_of_place i in
        let P : ℕ → Type 0 = λ z. 0 < get_or node_of z 0 in
        let kept = s.tree.kept q.0 (subst P (sym q.1) (omega (arith, some))) in
        let Q : ℕ → Type 0 = λ z. get_or node_of z 0 < length nodes in
        subst Q q.1 kept.0)
  ];
  parents = record { earlier = s.tree.parent };
}
