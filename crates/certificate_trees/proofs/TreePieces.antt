-- How the pieces of trees add up, and where their nodes begin.
use Rattle.std.proofs.Common.{arith, ◌≡◌, ◌+◌, ℕ, Some, List, [], ◌∷◌, ◌++◌, length, drop, ap, ◌∙◌, append_assoc, length-append, length-drop}
use Rattle.std.specs.Prelude.{slice_get}
use Rattle.proof_core.specs.declared.trees.Proof.{Proof}
use Rattle.certificate_trees.specs.declared.rules.Weaken.{Weaken}
use Rattle.certificate_trees.specs.declared.rules.Join.{Join}
use Rattle.certificate_trees.specs.Reads.{IsRead}
use Rattle.certificate_trees.specs.TreeTexts.{tree_bytes, node_places}
use Rattle.certificate_trees.proofs.Pieces.{then_read, byte_read}

-- a piece ends behind its bytes
pub ends : (text : List ℕ) (at to : ℕ) (p : List ℕ) → IsRead text at to p → to ≡ at + length p
ends text at to p read =
    omega (arith, read.onward, read.within, ap (λ z. length z) read.spelled, length-append p (drop to text), length-drop at text, length-drop to text)

pub weak_read : (text : List ℕ) (at inside mid to : ℕ) (b : List ℕ) → slice_get text at ≡ Some 119 →
    IsRead text (at + 1) inside (40 ∷ []) → IsRead text inside mid b → IsRead text mid to (41 ∷ []) →
    IsRead text at to ((119 ∷ 40 ∷ []) ++ b ++ 41 ∷ [])
weak_read text at inside mid to b e open' part close =
    then_read text at mid to ((119 ∷ 40 ∷ []) ++ b) (41 ∷ [])
    (then_read text at inside mid (119 ∷ 40 ∷ []) b (then_read text at (at + 1) inside (119 ∷ []) (40 ∷ []) (byte_read text at 119 e) open') part) close

pub join_read : (text : List ℕ) (at inside mid between last to : ℕ) (b d : List ℕ) → slice_get text at ≡ Some 106 →
    IsRead text (at + 1) inside (40 ∷ []) → IsRead text inside mid b → IsRead text mid between (44 ∷ []) → IsRead text between last d → IsRead text last to (41 ∷ []) →
    IsRead text at to ((106 ∷ 40 ∷ []) ++ b ++ (44 ∷ []) ++ d ++ 41 ∷ [])
join_read text at inside mid between last to b d e open' first comma second close =
    then_read text at last to ((106 ∷ 40 ∷ []) ++ b ++ (44 ∷ []) ++ d) (41 ∷ [])
    (then_read text at between last ((106 ∷ 40 ∷ []) ++ b ++ 44 ∷ []) d
    (then_read text at mid between ((106 ∷ 40 ∷ []) ++ b) (44 ∷ [])
    (then_read text at inside mid (106 ∷ 40 ∷ []) b (then_read text at (at + 1) inside (106 ∷ []) (40 ∷ []) (byte_read text at 106 e) open') first) comma) second) close

-- where the nodes begin
pub weak_places : {L : Type 0} (leaf : L → List ℕ) (x : Proof L Weaken Join) (at inside : ℕ) (old mid new : List ℕ) → inside ≡ at + 1 + 1 →
    mid ≡ old ++ node_places leaf x inside → new ≡ mid ++ at ∷ [] → new ≡ old ++ (node_places leaf x (at + 2) ++ at ∷ [])
weak_places leaf x at inside old mid new i e f =
    let same : inside ≡ at + 2 = omega arith in
    f ∙ ap (λ z. z ++ at ∷ []) (e ∙ ap (λ n. old ++ node_places leaf x n) same) ∙ append_assoc old (node_places leaf x (at + 2)) (at ∷ [])

pub join_places : {L : Type 0} (leaf : L → List ℕ) (text : List ℕ) (x y : Proof L Weaken Join) (at inside mid between : ℕ) (old one two new : List ℕ) →
    inside ≡ at + 1 + 1 → IsRead text inside mid (tree_bytes leaf x) → between ≡ mid + 1 →
    one ≡ old ++ node_places leaf x inside → two ≡ one ++ node_places leaf y between → new ≡ two ++ at ∷ [] →
    new ≡ old ++ (node_places leaf x (at + 2) ++ node_places leaf y (at + length (tree_bytes leaf x) + 3) ++ at ∷ [])
join_places leaf text x y at inside mid between old one two new i read b e f h =
    let same : inside ≡ at + 2 = omega arith in
    let end = ends text inside mid (tree_bytes leaf x) read in
    let other : between ≡ at + length (tree_bytes leaf x) + 3 = omega (arith, end) in
    let A = node_places leaf x (at + 2) in
    let B = node_places leaf y (at + length (tree_bytes leaf x) + 3) in
    h ∙ ap (λ z. z ++ at ∷ []) (f ∙ ap (λ n. one ++ node_places leaf y n) other ∙ ap (λ z. z ++ B) (e ∙ ap (λ n. old ++ node_places leaf x n) same))
    ∙ ap (λ z. z ++ at ∷ []) (append_assoc old A B) ∙ append_assoc old (A ++ B) (at ∷ [])

-- the places of what begins later
pub later_places : (f : ℕ → List ℕ) (old mid new : List ℕ) (n m : ℕ) → mid ≡ old → new ≡ mid ++ f n → n ≡ m → new ≡ old ++ f m
later_places f old mid new n m same e later = e ∙ ap (λ z. z ++ f n) same ∙ ap (λ k. old ++ f k) later
