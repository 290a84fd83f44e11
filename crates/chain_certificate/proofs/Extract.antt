-- A node's chain, read back from the node.
use Rattle.std.proofs.Common.{zero, suc, ◌≡◌, ℕ, List, [], ◌∷◌, ◌++◌, ◌<◌, ◌≤◌, length, reverse, arith, refl, subst, ap, sym, ◌∙◌, append_assoc}
use Rattle.std.proofs.lemmas.List.{reverse-append}
use Rattle.chain_certificate.specs.declared.tree.Node.{Node}
use Rattle.chain_certificate.specs.Tree.{node_at, chain_to, chain_of, HasParents}

chain_zero : (nodes : List Node) (k : ℕ) → chain_to nodes k 0 ≡ []
chain_zero nodes zero = refl
chain_zero nodes (suc k) = refl

chain_fuel : (nodes : List Node) → HasParents nodes → (k m i : ℕ) → i ≤ k → i ≤ m → i < length nodes → chain_to nodes k i ≡ chain_to nodes m i
chain_fuel nodes t k m zero a b l = chain_zero nodes k ∙ sym (chain_zero nodes m)
chain_fuel nodes t zero m (suc i) a b l = absurd (omega arith)
chain_fuel nodes t (suc k) zero (suc i) a b l = absurd (omega arith)
chain_fuel nodes t (suc k) (suc m) (suc i) a b l =
    let p : (node_at nodes (suc i)).parent < suc i = t.earlier (suc i) (omega arith) l in
    ap (λ (c : List ℕ). c ++ (node_at nodes (suc i)).order ∷ []) (chain_fuel nodes t k m (node_at nodes (suc i)).parent (omega arith) (omega arith) (omega arith))

chain_step : (nodes : List Node) → HasParents nodes → (i : ℕ) → 0 < i → i < length nodes →
    chain_of nodes i ≡ chain_of nodes (node_at nodes i).parent ++ (node_at nodes i).order ∷ []
chain_step nodes t zero a l = absurd (omega arith)
chain_step nodes t (suc i) a l =
    let p : (node_at nodes (suc i)).parent < suc i = t.earlier (suc i) a l in
    ap (λ (c : List ℕ). c ++ (node_at nodes (suc i)).order ∷ []) (chain_fuel nodes t i (node_at nodes (suc i)).parent (node_at nodes (suc i)).parent (omega arith) (omega arith) (omega arith))

pub read_more : (nodes : List Node) → HasParents nodes → (start at : ℕ) (list : List ℕ) → 0 < at → at < length nodes →
    chain_of nodes start ≡ chain_of nodes at ++ reverse list →
    chain_of nodes start ≡ chain_of nodes (node_at nodes at).parent ++ reverse (list ++ (node_at nodes at).order ∷ [])
read_more nodes t start at list a l e =
    e ∙ ap (λ (c : List ℕ). c ++ reverse list) (chain_step nodes t at a l)
    ∙ append_assoc (chain_of nodes (node_at nodes at).parent) ((node_at nodes at).order ∷ []) (reverse list)
    ∙ ap (λ (c : List ℕ). chain_of nodes (node_at nodes at).parent ++ c) (sym (reverse-append list ((node_at nodes at).order ∷ [])))

pub read_all : (nodes : List Node) (start : ℕ) (at : ℕ) (list : List ℕ) → at ≡ 0 → chain_of nodes start ≡ chain_of nodes at ++ reverse list → reverse list ≡ chain_of nodes start
read_all nodes start at list z e =
    let P : ℕ → Type 0 = λ k. chain_of nodes start ≡ chain_of nodes k ++ reverse list in sym (subst P z e)

-- the last step, as it is read from the nodes
pub last_one : (nodes read : List Node) → HasParents read → read ≡ nodes → (i : ℕ) (n : Node) → 0 < i → i < length nodes → node_at read i ≡ n →
    chain_of nodes i ≡ chain_of nodes n.parent ++ n.order ∷ []
last_one nodes read t e i n some within is =
    let P : List Node → Type 0 = λ l. HasParents l → chain_of nodes i ≡ chain_of nodes (node_at l i).parent ++ (node_at l i).order ∷ [] in
    let Q : Node → Type 0 = λ z. chain_of nodes i ≡ chain_of nodes z.parent ++ z.order ∷ [] in
    subst Q is (subst P (sym e) (λ h. chain_step nodes h i some within) t)

pub last_earlier : (nodes read : List Node) → HasParents read → read ≡ nodes → (i : ℕ) (n : Node) → 0 < i → i < length nodes → node_at read i ≡ n → n.parent < i
last_earlier nodes read t e i n some within is =
    let P : List Node → Type 0 = λ l. i < length l in
    let Q : Node → Type 0 = λ z. z.parent < i in
    subst Q is (t.earlier i some (subst P (sym e) within))
