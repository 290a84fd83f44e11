-- What contracts see of routes, and whose routes they are.
use Rattle.std.specs.Prelude.{◌≡◌, ◌<◌, ◌≤◌, ◌+◌, ◌*◌, ◌⊎◌, ℕ, Bool, true, false, List, length, map, slice_index_or}
use Rattle.order_laws.specs.declared.Order.{Order}
use Rattle.order_laws.specs.declared.Point.{Point}
use Rattle.order_laws.specs.Points.{number_of}
use Rattle.order_laws.specs.Tables.{IsPoint}
use Rattle.order_core.specs.Sets.{Orders, IsSet}
use Rattle.order_closure.specs.declared.links.Link.{Link}
use Rattle.chain_certificate.specs.declared.tree.Node.{Node}
use Rattle.chain_certificate.specs.Tree.{IsWhole, HasParents}

abbrev pub points_of : Orders → ℕ
points_of set = 2 * set.extents + length set.dates

-- the orders by the numbers of their points
abbrev pub links_of : Orders → List Link
links_of set = map (λ (o : Order). record { low = number_of set.extents o.low; high = number_of set.extents o.high; strict = o.strict; next = 0 }) set.list

-- the nodes of a search, and of each pair of a point and a flag the first node but the start, or 0
pub record Routing : Type 0 where
  pub extents : ℕ
  pub dates : ℕ
  pub nodes : List Node
  pub node_of : List ℕ

-- the routes are those of the set's orders from the source
pub record IsRoutesOf (set : Orders) (source : Point) (routes : Routing) : Type 0 where
  pub of_set : IsSet set.extents set.dates set.list
  pub in_range : IsPoint set.extents (length set.dates) source
  pub extents : routes.extents ≡ set.extents
  pub dates : routes.dates ≡ length set.dates
  pub whole : IsWhole (points_of set) (links_of set) (number_of set.extents source) routes.nodes routes.node_of

-- a chain can be read at each node
pub record IsReadable (points : ℕ) (nodes : List Node) (node_of : List ℕ) : Type 0 where
  pub size : length node_of ≡ 2 * points
  pub within : (i : ℕ) → i < length node_of → slice_index_or node_of i 0 < length nodes
  pub parents : HasParents nodes

-- of the nodes of a target's plain and strict pair, 0 for none: the strict one where the flag is set, else the lesser
pub record IsPicked (plain shown : ℕ) (strict : Bool) (node : ℕ) : Type 0 where
  pub strictly : strict ≡ true → node ≡ shown
  pub none : strict ≡ false → node ≡ 0 → (plain ≡ 0) × (shown ≡ 0)
  pub before_plain : strict ≡ false → 0 < plain → node ≤ plain
  pub before_shown : strict ≡ false → 0 < shown → node ≤ shown
  pub one : strict ≡ false → (node ≡ plain) ⊎ (node ≡ shown)
