-- The chain that ends at a node of a search.
use Rattle.std.specs.Prelude.{zero, suc, ℕ, Option, Some, None, List}
use Rattle.chain_certificate.specs.declared.tree.Node.{Node}
use Rattle.chain_certificate.specs.Tree.{chain_of}

-- none ends at the first node, which is the source
abbrev pub chain_at : List Node → ℕ → Option (List ℕ)
chain_at nodes zero = None
chain_at nodes (suc i) = Some (chain_of nodes (suc i))
