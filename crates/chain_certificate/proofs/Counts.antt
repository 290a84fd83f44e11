-- The count of steps of a search.
use Rattle.std.proofs.Common.{zero, suc, ◌≡◌, ◌≢◌, ℕ, List, [], ◌∷◌, ◌++◌, Bool, true, false, cond, ◌+◌, ◌-◌, ◌*◌, ◌<◌, ◌≤◌, length, get_or, set, replicate, drop, arith, inl, inr, refl, subst, ap, ◌∙◌, eqb}
use Rattle.std.proofs.Math.Dec.{eqb-suc-zero, eqb-zero-suc, eqb-suc-suc}
use Rattle.std.proofs.lemmas.Bool.Decides.{eqb_tells}
use Rattle.std.proofs.lemmas.List.{drop_more, drop-append-le, drop_all}
use Rattle.order_closure.specs.Next.{IsNext}
use Rattle.order_closure.specs.Search.{place}
use Rattle.chain_certificate.specs.declared.tree.Node.{Node}
use Rattle.chain_certificate.specs.Tree.{no_node, pair_at, pair_of, nodes_after, node_of_after}
use Rattle.chain_certificate.specs.Counts.{leaves, weight, unmet, queued, steps_left}

-- what an order with a low point adds to the pair of a place
abbrev hits : ℕ → ℕ → ℕ
hits low i = cond (eqb (2 * low) i) 1 0 + cond (eqb (2 * low + 1) i) 1 0

hit : (low p : ℕ) (b : Bool) → low ≡ p → hits low (2 * p + cond b 1 0) ≡ 1
hit low p true h =
    elim (eqb_tells (2 * low) (2 * p + 1)) [
      | inl y ↦ absurd (omega (arith, y.1, h))
      | inr n ↦ elim (eqb_tells (2 * low + 1) (2 * p + 1)) [ inl y ↦ rw (n.0, y.0) refl | inr m ↦ absurd (m.1 (omega (arith, h))) ]
    ]
hit low p false h =
    elim (eqb_tells (2 * low + 1) (2 * p + 0)) [
      | inl y ↦ absurd (omega (arith, y.1, h))
      | inr n ↦ elim (eqb_tells (2 * low) (2 * p + 0)) [ inl y ↦ rw (n.0, y.0) refl | inr m ↦ absurd (m.1 (omega (arith, h))) ]
    ]

miss : (low p : ℕ) (b : Bool) → low ≢ p → hits low (2 * p + cond b 1 0) ≡ 0
miss low p true h =
    elim (eqb_tells (2 * low) (2 * p + 1)) [
      | inl y ↦ absurd (omega (arith, y.1))
      | inr n ↦ elim (eqb_tells (2 * low + 1) (2 * p + 1)) [ inl y ↦ absurd (h (omega (arith, y.1))) | inr m ↦ rw (n.0, m.0) refl ]
    ]
miss low p false h =
    elim (eqb_tells (2 * low + 1) (2 * p + 0)) [
      | inl y ↦ absurd (omega (arith, y.1))
      | inr n ↦ elim (eqb_tells (2 * low) (2 * p + 0)) [ inl y ↦ absurd (h (omega (arith, y.1))) | inr m ↦ rw (n.0, m.0) refl ]
    ]

leaves_drop : (lows : List ℕ) (n i : ℕ) → n < length lows → leaves (drop n lows) i ≡ hits (get_or lows n 0) i + leaves (drop (n + 1) lows) i
leaves_drop lows n i h = ap (λ (z : List ℕ). leaves z i) (drop_more lows n 0 h)

leaves_skip : (lows : List ℕ) (p : ℕ) (b : Bool) (k n : ℕ) → n + k ≤ length lows →
    ((m : ℕ) → n ≤ m → m < n + k → get_or lows m 0 ≢ p) →
    leaves (drop n lows) (2 * p + cond b 1 0) ≡ leaves (drop (n + k) lows) (2 * p + cond b 1 0)
leaves_skip lows p b zero n h none =
    let P : ℕ → Type 0 = λ z. leaves (drop n lows) (2 * p + cond b 1 0) ≡ leaves (drop z lows) (2 * p + cond b 1 0) in
    let same : n ≡ n + 0 = omega arith in
    subst P same refl
leaves_skip lows p b (suc k) n h none =
    let P : ℕ → Type 0 = λ z. leaves (drop (n + 1) lows) (2 * p + cond b 1 0) ≡ leaves (drop z lows) (2 * p + cond b 1 0) in
    let same : (n + 1) + k ≡ n + suc k = omega arith in
    let rest : leaves (drop (n + 1) lows) (2 * p + cond b 1 0) ≡ leaves (drop (n + suc k) lows) (2 * p + cond b 1 0) =
    subst P same (leaves_skip lows p b k (n + 1) (omega arith) (λ m a l. none m (omega arith) (omega arith))) in
    omega (arith, leaves_drop lows n (2 * p + cond b 1 0) (omega arith), miss (get_or lows n 0) p b (none n (omega arith) (omega arith)), rest)

-- up to the next order of the point no order leaves its pair
pub leaves_to : (lows : List ℕ) (p : ℕ) (b : Bool) (n at : ℕ) → IsNext (λ m. get_or lows m 0) (length lows) p n at →
    leaves (drop n lows) (2 * p + cond b 1 0) ≡ leaves (drop at lows) (2 * p + cond b 1 0)
leaves_to lows p b n at s =
    let P : ℕ → Type 0 = λ z. leaves (drop n lows) (2 * p + cond b 1 0) ≡ leaves (drop z lows) (2 * p + cond b 1 0) in
    let same : n + (at - n) ≡ at = omega (arith, s.ahead) in
    subst P same (leaves_skip lows p b (at - n) n (omega (arith, s.ahead, s.within)) (λ m a l. s.none_between m a (omega (arith, s.ahead))))

pub leaves_end : (lows : List ℕ) (i n : ℕ) → length lows ≤ n → leaves (drop n lows) i ≡ 0
leaves_end lows i n h = ap (λ (z : List ℕ). leaves z i) (drop_all n lows h)

-- the order itself leaves the pair
pub leaves_one : (lows : List ℕ) (p : ℕ) (b : Bool) (n at : ℕ) → n < length lows → get_or lows n 0 ≡ p →
    IsNext (λ m. get_or lows m 0) (length lows) p (n + 1) at →
    leaves (drop n lows) (2 * p + cond b 1 0) ≡ 1 + leaves (drop at lows) (2 * p + cond b 1 0)
leaves_one lows p b n at h e s =
    omega (arith, leaves_drop lows n (2 * p + cond b 1 0) h, hit (get_or lows n 0) p b e, leaves_to lows p b (n + 1) at s)

queued-append : (w : ℕ → ℕ) (xs : List Node) (x : Node) → queued w (xs ++ x ∷ []) ≡ queued w xs + w (place (pair_of x))
queued-append w [] x = omega arith
queued-append w (y ∷ ys) x = omega (arith, queued-append w ys x)

unmet-set : (w : ℕ → ℕ) (xs : List ℕ) (i v : ℕ) → i < length xs → get_or xs i 0 ≡ 0 → 0 < v → unmet w (set xs i v) + w i ≡ unmet w xs
unmet-set w [] i v h e p = absurd (omega arith)
unmet-set w (x ∷ xs) zero v h e p =
    elim (eqb_tells v 0) [
      | inl y ↦ absurd (omega (arith, y.1))
      | inr n ↦ rw (n.0, e) (omega arith)
    ]
unmet-set w (x ∷ xs) (suc i) v h e p = omega (arith, unmet-set (λ j. w (suc j)) xs i v (omega arith) e p)

-- a node that is met moves its weight from its place to the queue
pub met_left : (lows : List ℕ) (source : ℕ) (nodes : List Node) (node_of : List ℕ) (head : ℕ) (x : Node) →
    head ≤ length nodes → 0 < length nodes → place (pair_of x) < length node_of →
    steps_left lows source (nodes_after node_of nodes x) (node_of_after node_of nodes x) head ≡ steps_left lows source nodes node_of head
met_left lows source nodes node_of head x h some within =
    let w : ℕ → ℕ = weight lows source in
    elim (eqb_tells (get_or node_of (place (pair_of x)) 0) 0) [
      | inl y ↦ rw (y.0, drop-append-le head nodes (x ∷ []) h)
          (omega (arith, queued-append w (drop head nodes) x, unmet-set w node_of (place (pair_of x)) (length nodes) within y.1 some))
      | inr n ↦ rw n.0 refl
    ]

-- the node's own weight comes off
pub next_left : (lows : List ℕ) (source : ℕ) (nodes : List Node) (node_of : List ℕ) (head : ℕ) → head < length nodes →
    steps_left lows source nodes node_of head
    ≡ weight lows source (place (pair_at nodes head)) + steps_left lows source nodes node_of (head + 1)
next_left lows source nodes node_of head h =
    omega (arith, ap (queued (weight lows source)) (drop_more nodes head no_node h))

pub weight_source : (lows : List ℕ) (source i : ℕ) → i ≡ 2 * source → weight lows source i ≡ 0
weight_source lows source i e = elim (eqb_tells i (2 * source)) [ inl y ↦ rw y.0 refl | inr n ↦ absurd (n.1 e) ]

pub weight_other : (lows : List ℕ) (source i : ℕ) → i ≢ 2 * source → weight lows source i ≡ leaves lows i + 1
weight_other lows source i other = elim (eqb_tells i (2 * source)) [ inl y ↦ absurd (other y.1) | inr n ↦ rw n.0 refl ]

-- the sum over the places below n
abbrev total : (ℕ → ℕ) → ℕ → ℕ
total w zero = 0
total w (suc n) = w 0 + total (λ i. w (suc i)) n

unmet_blank : (w : ℕ → ℕ) (n : ℕ) → unmet w (replicate {A = ℕ} n 0) ≡ total w n
unmet_blank w zero = refl
unmet_blank w (suc n) = omega (arith, unmet_blank (λ i. w (suc i)) n)

total_same : (f g : ℕ → ℕ) → ((i : ℕ) → f i ≡ g i) → (n : ℕ) → total f n ≡ total g n
total_same f g same zero = refl
total_same f g same (suc n) = omega (arith, same 0, total_same (λ i. f (suc i)) (λ i. g (suc i)) (λ i. same (suc i)) n)

total-add : (f g : ℕ → ℕ) (n : ℕ) → total (λ i. f i + g i) n ≡ total f n + total g n
total-add f g zero = refl
total-add f g (suc n) = omega (arith, total-add (λ i. f (suc i)) (λ i. g (suc i)) n)

total_const : (c n : ℕ) → total (λ i. c) n ≡ n * c
total_const c zero = omega arith
total_const c (suc n) = omega (arith, total_const c n)

total_none : (n : ℕ) → total (λ i. cond (eqb 0 (suc i)) 1 0) n ≡ 0
total_none zero = refl
total_none (suc n) =
    let rest : total (λ i. cond (eqb 0 (suc (suc i))) 1 0) n ≡ total (λ i. 0) n =
    total_same (λ i. cond (eqb 0 (suc (suc i))) 1 0) (λ i. 0) (λ i. rw (eqb-zero-suc (suc i)) refl) n in
    omega (arith, rest, total_const 0 n)

total_one : (c n : ℕ) → c < n → total (λ i. cond (eqb c i) 1 0) n ≡ 1
total_one c zero h = absurd (omega arith)
total_one zero (suc n) h =
    omega (arith, total_none n)
total_one (suc c) (suc n) h =
    let rest : total (λ i. cond (eqb (suc c) (suc i)) 1 0) n ≡ 1 =
    total_same (λ i. cond (eqb (suc c) (suc i)) 1 0) (λ i. cond (eqb c i) 1 0) (λ i. rw (eqb-suc-suc c i) refl) n ∙ total_one c n (omega arith) in
    rw (eqb-suc-zero c) (omega (arith, rest))

total_leaves : (lows : List ℕ) (points : ℕ) → ((n : ℕ) → n < length lows → get_or lows n 0 < points) →
    total (leaves lows) (2 * points) ≡ 2 * length lows
total_leaves [] points within = total_const 0 (2 * points) ∙ omega arith
total_leaves (low ∷ lows) points within =
    let here : low < points = within 0 (omega arith) in
    let a : total (λ i. cond (eqb (2 * low) i) 1 0) (2 * points) ≡ 1 = total_one (2 * low) (2 * points) (omega arith) in
    let b : total (λ i. cond (eqb (2 * low + 1) i) 1 0) (2 * points) ≡ 1 = total_one (2 * low + 1) (2 * points) (omega arith) in
    let c : total (leaves lows) (2 * points) ≡ 2 * length lows = total_leaves lows points (λ n h. within (suc n) (omega arith)) in
    omega (
      arith,
      a,
      b,
      c,
      total-add (λ i. cond (eqb (2 * low) i) 1 0 + cond (eqb (2 * low + 1) i) 1 0) (leaves lows) (2 * points),
      total-add (λ i. cond (eqb (2 * low) i) 1 0) (λ i. cond (eqb (2 * low + 1) i) 1 0) (2 * points),
    )

total_but : (f : ℕ → ℕ) (s n : ℕ) → s < n → total (λ i. cond (eqb i s) 0 (f i)) n + f s ≡ total f n
total_but f s zero h = absurd (omega arith)
total_but f zero (suc n) h =
    let rest : total (λ i. cond (eqb (suc i) 0) 0 (f (suc i))) n ≡ total (λ i. f (suc i)) n =
    total_same (λ i. cond (eqb (suc i) 0) 0 (f (suc i))) (λ i. f (suc i)) (λ i. rw (eqb-suc-zero i) refl) n in
    omega (arith, rest)
total_but f (suc s) (suc n) h =
    let rest : total (λ i. cond (eqb (suc i) (suc s)) 0 (f (suc i))) n ≡ total (λ i. cond (eqb i s) 0 (f (suc i))) n =
    total_same (λ i. cond (eqb (suc i) (suc s)) 0 (f (suc i))) (λ i. cond (eqb i s) 0 (f (suc i))) (λ i. rw (eqb-suc-suc i s) refl) n in
    rw (eqb-zero-suc s) (omega (arith, rest, total_but (λ i. f (suc i)) s n (omega arith)))

-- with the expansion of the first node the steps are two for each order and two for each point
pub all_left : (lows : List ℕ) (points source : ℕ) → ((n : ℕ) → n < length lows → get_or lows n 0 < points) → source < points →
    unmet (weight lows source) (replicate {A = ℕ} (2 * points) 0) + (leaves lows (2 * source) + 1) ≡ 2 * length lows + 2 * points
all_left lows points source within h =
    omega (
      arith,
      unmet_blank (weight lows source) (2 * points),
      total_but (λ i. leaves lows i + 1) (2 * source) (2 * points) (omega arith),
      total-add (leaves lows) (λ i. 1) (2 * points),
      total_const 1 (2 * points),
      total_leaves lows points within,
    )
