-- How many steps a search takes: each pair that it expands takes one for each order that leaves it, and one at their end.
use Rattle.std.specs.Prelude.{suc, ◌+◌, ◌*◌, ◌==◌, ℕ, cond, List, [], ◌∷◌, drop}
use Rattle.order_closure.specs.Search.{place}
use Rattle.chain_certificate.specs.declared.tree.Node.{Node}
use Rattle.chain_certificate.specs.Tree.{pair_of}

-- of the orders with these low points, how many leave the pair of a place
abbrev pub leaves : List ℕ → ℕ → ℕ
leaves [] i = 0
leaves (low ∷ lows) i = (cond (2 * low == i) 1 0 + cond (2 * low + 1 == i) 1 0) + leaves lows i

-- the steps of a pair's expansion; a later node of the source itself is not expanded, since the first node was
abbrev pub weight : List ℕ → ℕ → ℕ → ℕ
weight lows source i = cond (i == 2 * source) 0 (leaves lows i + 1)

-- the weights of the places where no node is kept
abbrev pub unmet : (ℕ → ℕ) → List ℕ → ℕ
unmet w [] = 0
unmet w (x ∷ xs) = cond (x == 0) (w 0) 0 + unmet (λ i. w (suc i)) xs

abbrev pub queued : (ℕ → ℕ) → List Node → ℕ
queued w [] = 0
queued w (x ∷ xs) = w (place (pair_of x)) + queued w xs

-- the steps that are left from a node on
abbrev pub steps_left : List ℕ → ℕ → List Node → List ℕ → ℕ → ℕ
steps_left lows source nodes node_of head =
    queued (weight lows source) (drop head nodes) + unmet (weight lows source) node_of
