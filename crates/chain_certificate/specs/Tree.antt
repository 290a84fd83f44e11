-- The tree of a search: each node but the first has a parent before it and the order taken from there.
use Rattle.std.specs.Prelude.{zero, suc, ◌≡◌, ◌<◌, ◌≤◌, ◌+◌, ◌*◌, ◌==◌, ◌⊎◌, ℕ, Bool, false, cond, List, [], ◌∷◌, ◌++◌, length, slice_index_or, slice_set}
use Rattle.order_closure.specs.declared.links.Link.{Link}
use Rattle.order_closure.specs.Search.{Pair}
use Rattle.order_closure.specs.Links.{IsRoute, shows, link_at}
use Rattle.order_closure.specs.Search.{place, beyond}
use Rattle.chain_certificate.specs.declared.tree.Node.{Node}
use Rattle.order_laws.specs.Lists.{IsAtMost}

abbrev pub no_node : Node
no_node = record { point = 0; strict = false; parent = 0; order = 0 }

abbrev pub node_at : List Node → ℕ → Node
node_at nodes i = slice_index_or nodes i no_node

abbrev pub pair_at : List Node → ℕ → Pair
pair_at nodes i = record { point = (node_at nodes i).point; strict = (node_at nodes i).strict }

-- the orders from the first node to a node, in at most `fuel` steps
abbrev pub chain_to : List Node → ℕ → ℕ → List ℕ
chain_to nodes zero i = []
chain_to nodes (suc fuel) zero = []
chain_to nodes (suc fuel) (suc i) = chain_to nodes fuel (node_at nodes (suc i)).parent ++ (node_at nodes (suc i)).order ∷ []

abbrev pub chain_of : List Node → ℕ → List ℕ
chain_of nodes i = chain_to nodes i i

-- a step of the search: the node and the link that it takes; steps go by node, then by link
abbrev pub IsEarlier : ℕ → ℕ → ℕ → ℕ → Type 0
IsEarlier i m h n = (i < h) ⊎ ((i ≡ h) × (m < n))

-- the steps before (h, n) have been taken
pub record IsTree (points : ℕ) (links : List Link) (source : ℕ) (nodes : List Node) (node_of : List ℕ) (h n : ℕ) : Type 0 where
  pub some : 0 < length nodes
  pub root : pair_at nodes 0 ≡ record { point = source; strict = false }
  pub in_range : (i : ℕ) → i < length nodes → (node_at nodes i).point < points
  pub parent : (i : ℕ) → 0 < i → i < length nodes → (node_at nodes i).parent < i
  pub order : (i : ℕ) → 0 < i → i < length nodes → (node_at nodes i).order < length links
  pub begins : (i : ℕ) → 0 < i → i < length nodes → (link_at links (node_at nodes i).order).low ≡ (node_at nodes (node_at nodes i).parent).point
  pub leads : (i : ℕ) → 0 < i → i < length nodes → pair_at nodes i ≡ beyond (pair_at nodes (node_at nodes i).parent) (link_at links (node_at nodes i).order)
  pub ascending : (i j : ℕ) → 0 < i → i < j → j < length nodes →
      IsEarlier (node_at nodes i).parent (node_at nodes i).order (node_at nodes j).parent (node_at nodes j).order
  pub behind : (i : ℕ) → 0 < i → i < length nodes → IsEarlier (node_at nodes i).parent (node_at nodes i).order h n
  pub size : length node_of ≡ 2 * points
  pub kept : (q : Pair) → 0 < slice_index_or node_of (place q) 0 →
      (slice_index_or node_of (place q) 0 < length nodes) × (pair_at nodes (slice_index_or node_of (place q) 0) ≡ q)
  pub taken : (i m : ℕ) → i < length nodes → m < length links → (link_at links m).low ≡ (node_at nodes i).point → IsEarlier i m h n →
      (0 < slice_index_or node_of (place (beyond (pair_at nodes i) (link_at links m))) 0)
      × ((IsEarlier (node_at nodes (slice_index_or node_of (place (beyond (pair_at nodes i) (link_at links m))) 0)).parent
      (node_at nodes (slice_index_or node_of (place (beyond (pair_at nodes i) (link_at links m))) 0)).order i m)
      ⊎ (((node_at nodes (slice_index_or node_of (place (beyond (pair_at nodes i) (link_at links m))) 0)).parent ≡ i)
      × ((node_at nodes (slice_index_or node_of (place (beyond (pair_at nodes i) (link_at links m))) 0)).order ≡ m)))

abbrev pub zeros : List ℕ → ℕ
zeros [] = 0
zeros (x ∷ xs) = cond (x == 0) 1 0 + zeros xs

abbrev pub pair_of : Node → Pair
pair_of x = record { point = x.point; strict = x.strict }

-- the nodes, and the node of each pair, after a node is met
abbrev pub nodes_after : List ℕ → List Node → Node → List Node
nodes_after node_of nodes x = cond (slice_index_or node_of (place (pair_of x)) 0 == 0) (nodes ++ x ∷ []) nodes

abbrev pub node_of_after : List ℕ → List Node → Node → List ℕ
node_of_after node_of nodes x = cond (slice_index_or node_of (place (pair_of x)) 0 == 0) (slice_set node_of (place (pair_of x)) (length nodes)) node_of

pub record IsSearching (points : ℕ) (links : List Link) (source : ℕ) (nodes : List Node) (node_of : List ℕ) (h n : ℕ) : Type 0 where
  pub tree : IsTree points links source nodes node_of h n
  pub room : length nodes + zeros node_of ≡ 2 * points + 1

-- exactly the pairs that a route of at least one link reaches have a node, and its chain is the first such route
pub record IsFirst (links : List Link) (source : ℕ) (q : Pair) (ns : List ℕ) : Type 0 where
  pub some : 0 < length ns
  pub leads : IsRoute links source q.point ns
  pub shown : shows links ns ≡ q.strict
  pub first : (ms : List ℕ) → 0 < length ms → IsRoute links source q.point ms → shows links ms ≡ q.strict → IsAtMost ns ms

-- the links of node `h`, taken up to number `at`
pub record IsTaking (points : ℕ) (links : List Link) (source : ℕ) (nodes : List Node) (node_of : List ℕ) (h at point : ℕ) (strict : Bool) : Type 0 where
  pub searching : IsSearching points links source nodes node_of h at
  pub head : h < length nodes
  pub is_point : (node_at nodes h).point ≡ point
  pub is_strict : (node_at nodes h).strict ≡ strict
  pub within : at ≤ length links
  pub starts : at < length links → (link_at links at).low ≡ point

-- the search is over
pub record IsWhole (points : ℕ) (links : List Link) (source : ℕ) (nodes : List Node) (node_of : List ℕ) : Type 0 where
  pub size : length node_of ≡ 2 * points
  pub reached : (q : Pair) → 0 < slice_index_or node_of (place q) 0 →
      (slice_index_or node_of (place q) 0 < length nodes) × IsFirst links source q (chain_of nodes (slice_index_or node_of (place q) 0))
  pub missed : (q : Pair) → slice_index_or node_of (place q) 0 ≡ 0 →
      (ms : List ℕ) → 0 < length ms → IsRoute links source q.point ms → shows links ms ≡ q.strict → ⊥
  pub ascending : (i j : ℕ) → i ≤ j → j < length nodes → IsAtMost (chain_of nodes i) (chain_of nodes j)

-- each node but the first has its parent before it
pub record HasParents (nodes : List Node) : Type 0 where
  pub earlier : (i : ℕ) → 0 < i → i < length nodes → (node_at nodes i).parent < i
