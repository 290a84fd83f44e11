-- Which proofs of chains are kept, and the way from a node up to one of them.
use Rattle.std.specs.Prelude.{ℕ, ◌≡◌, ◌<◌, true, List, [], ◌∷◌, Option, Some, None, length, slice_index_or}
use Rattle.order_laws.specs.declared.Point.{Point}
use Rattle.order_core.specs.Sets.{Orders}
use Rattle.chain_certificate.specs.declared.tree.Node.{Node}
use Rattle.chain_certificate.specs.Routes.{IsRoutesOf}
use Rattle.chain_certificate.specs.Tree.{node_at, chain_of}
use Rattle.order_certificates.specs.declared.sharing.Part.{Part}
use Rattle.order_certificates.specs.declared.sharing.Part.TheVariants.{Order as OneOrder}
use Rattle.order_certificates.specs.declared.shared_routes.SharedRoutes.{SharedRoutes}
use Rattle.order_certificates.specs.Sharing.{LetSteps, is_kept, kept_part, step_of}

-- a part proves a front with more orders behind it, by lines that are there
abbrev pub IsKeptBehind : LetSteps → Part → List ℕ → Part → Type 0
IsKeptBehind lets front [] p = p ≡ front
IsKeptBehind lets front (n ∷ ns) p =
    (is_kept lets (step_of front n) ≡ true) × IsKeptBehind lets (kept_part lets (step_of front n)) ns p

-- a part proves a chain, by lines that are there
abbrev pub IsKept : LetSteps → List ℕ → Part → Type 0
IsKept lets [] p = ⊥
IsKept lets (n ∷ ns) p = IsKeptBehind lets (OneOrder n) ns p

-- each part in a table by nodes proves the chain that ends at its node
pub record AreKept (lets : LetSteps) (nodes : List Node) (parts : List (Option Part)) : Type 0 where
  pub size : length parts ≡ length nodes
  pub kept : (i : ℕ) (p : Part) → slice_index_or parts i None ≡ Some p → IsKept lets (chain_of nodes i) p

-- the routes from a source, with what is kept of their chains
pub record IsSharing (set : Orders) (source : Point) (lets : LetSteps) (r : SharedRoutes) : Type 0 where
  pub routes : IsRoutesOf set source r.routes
  pub parts : AreKept lets r.routes.nodes r.parts.items

-- some nodes, each the parent of the one before it, lead from a node to the parent of the last
abbrev pub IsWay : List Node → ℕ → List ℕ → ℕ → Type 0
IsWay nodes node [] at = node ≡ at
IsWay nodes node (n ∷ ns) at = (n ≡ node) × (0 < n) × (n < length nodes) × IsWay nodes (node_at nodes n).parent ns at

-- the way up from a node to one whose part is there
pub record IsClimbed (nodes : List Node) (parts : List (Option Part)) (node : ℕ) (front : Part) (passed : List ℕ) : Type 0 where
  pub at : ℕ
  pub way : IsWay nodes node passed at
  pub kept : (lets : LetSteps) → AreKept lets nodes parts → IsKept lets (chain_of nodes at) front
