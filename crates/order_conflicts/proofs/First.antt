-- The cycle of a tangle is the first of all.
use Rattle.std.proofs.Common.{zero, suc, ◌≡◌, ℕ, List, [], ◌∷◌, Bool, true, false, ◌<◌, ◌≤◌, length, get_or, arith, inl, inr, refl, subst, ap, sym, ◌∙◌}
use Rattle.std.specs.Prelude.{◌⊎◌, nat_lt, Option, None, Some, unwrap_or}
use Rattle.std.specs.List.{Contains}
use Rattle.std.proofs.lemmas.Bool.{cases_Bool, cases_lt, true≢false}
use Rattle.std.proofs.lemmas.Bool.Decides.{eqb_tells, leb_tells}
use Rattle.order_laws.specs.declared.Order.{Order}
use Rattle.order_laws.specs.declared.Point.{Point}
use Rattle.order_laws.specs.Chains.{order_at, IsChain, shows_strict}
use Rattle.order_laws.specs.ChainSearch.{first_chain}
use Rattle.order_laws.specs.FirstChains.{IsFirstChain}
use Rattle.order_laws.specs.Lists.{IsLess, IsAtMost}
use Rattle.order_laws.proofs.ChainSearch.{found_first}
use Rattle.order_laws.proofs.FirstChains.{one_first}
use Rattle.chain_certificate.proofs.Computed.{no_chain}
use Rattle.chain_certificate.proofs.Lists.{most_trans}
use Rattle.order_conflicts.specs.Cycles.{is_before, earlier, earliest}

ltb_tells : (a b : ℕ) → ((nat_lt a b ≡ true) × (a < b)) ⊎ ((nat_lt a b ≡ false) × (b ≤ a))
ltb_tells a b = elim (leb_tells (suc a) b) [ inl holds ↦ inl (holds.0, omega (arith, holds.1)) | inr other ↦ inr (other.0, omega (arith, other.1)) ]

module _ (orders : List Order) where
  -- no point among these has a cycle, or a cycle is the first of theirs
  abbrev pub FirstOf : (Point → Type 0) → Option (List ℕ) → Type 0
  FirstOf among None = (y : Point) → among y → (ms : List ℕ) → IsChain orders y y ms → shows_strict orders ms ≡ true → ⊥
  FirstOf among (Some ns) =
      (x : Point) × (among x × (IsFirstChain orders x x true ns
      × ((y : Point) → among y → (ms : List ℕ) → IsChain orders y y ms → shows_strict orders ms ≡ true → IsAtMost ns ms)))

  -- of cycles with one first order the points are one
  same_start : (x y : Point) (a b : ℕ) (cs ds : List ℕ) → IsChain orders x x (a ∷ cs) → IsChain orders y y (b ∷ ds) → a ≡ b → x ≡ y
  same_start x y a b cs ds v w e = sym v.1.1 ∙ ap (λ n. (order_at orders n).low) e ∙ w.1.1

  abbrev head : List ℕ → ℕ
  head ns = get_or ns 0 0

  -- what the comparison tells
  record Compared (ns ms : List ℕ) (before : Bool) : Type 0 where
    if_true : before ≡ true → (length ns < length ms) ⊎ ((length ns ≡ length ms) × (head ns < head ms))
    if_false : before ≡ false → (length ms < length ns) ⊎ ((length ms ≡ length ns) × (head ms ≤ head ns))

  compared : (ns ms : List ℕ) → Compared ns ms (is_before ns ms)
  compared ns ms =
      elim (ltb_tells (length ns) (length ms)) [
        | inl short ↦ rw short.0 (record { if_true = λ _. inl short.1; if_false = λ e. absurd (true≢false e) })
        | inr long ↦ rw long.0 (elim (eqb_tells (length ns) (length ms)) [
          | inr other ↦ rw other.0 (record { if_true = λ e. absurd (true≢false (sym e)); if_false = λ _. inl (omega (arith, long.1, other.1)) })
          | inl same ↦ rw same.0 (elim (ltb_tells (head ns) (head ms)) [
            | inl less ↦ rw less.0 (record { if_true = λ _. inr (same.1, less.1); if_false = λ e. absurd (true≢false e) })
            | inr most ↦ rw most.0 (record { if_true = λ e. absurd (true≢false (sym e)); if_false = λ _. inr (sym same.1, omega (arith, most.1)) })
          ])
        ])
      ]

  less_of : (ns ms : List ℕ) → 0 < length ns → (length ns < length ms) ⊎ ((length ns ≡ length ms) × (head ns < head ms)) → IsLess ns ms
  less_of ns ms h (inl short) = inl short
  less_of [] ms h (inr same) = absurd (omega arith)
  less_of (n ∷ ns) [] h (inr same) = absurd (omega (arith, same.0))
  less_of (n ∷ ns) (m ∷ ms) h (inr same) = inr (same.0, inl same.1)

  -- a first cycle that the other is not before
  most_of : (x y : Point) (xs ys : List ℕ) → IsFirstChain orders x x true xs → IsFirstChain orders y y true ys →
      (length xs < length ys) ⊎ ((length xs ≡ length ys) × (head xs ≤ head ys)) → IsAtMost xs ys
  most_of x y xs ys a b (inl short) = inr (inl short)
  most_of x y [] ys a b (inr same) = absurd (omega (arith, a.chain.0))
  most_of x y (m ∷ ms) [] a b (inr same) = absurd (omega (arith, b.chain.0))
  most_of x y (m ∷ ms) (n ∷ ns) a b (inr same) =
      elim (cases_lt m n) [
        | inl less ↦ inr (less_of (m ∷ ms) (n ∷ ns) (omega arith) (inr (same.0, less)))
        | inr most ↦
            (let e : m ≡ n = omega (arith, same.1) in
            let point : x ≡ y = same_start x y m n ms ns a.chain b.chain e in
            let P : Point → Type 0 = λ z. IsFirstChain orders z z true (n ∷ ns) in
            inl (one_first orders x x true (m ∷ ms) (n ∷ ns) a (subst P (sym point) b)))
      ]

  -- the cycles of one point more
  more : (among : Point → Type 0) (best : Option (List ℕ)) (x : Point) (c : Option (List ℕ)) → first_chain orders x x true ≡ c → FirstOf among best →
      FirstOf (λ y. among y ⊎ (y ≡ x)) (earlier best c)
  more among None x None e b = λ y a. elim a [
    | inl old ↦ b y old
    | inr same ↦ (let P : Point → Type 0 = λ z. (ms : List ℕ) → IsChain orders z z ms → shows_strict orders ms ≡ true → ⊥ in
        subst P (sym same) (λ ms chain shows. no_chain orders x x true e ms chain (λ _. shows)))
  ]
  more among None x (Some xs) e b =
      let first : IsFirstChain orders x x true xs = found_first orders x x true xs e in (
        x,
        (
          inr refl,
          (
            first,
            λ y a. elim a [
              | inl old ↦ (λ ms chain shows. absurd (b y old ms chain shows))
              | inr same ↦ (let P : Point → Type 0 = λ z. (ms : List ℕ) → IsChain orders z z ms → shows_strict orders ms ≡ true → IsAtMost xs ms in
                  subst P (sym same) (λ ms chain shows. first.first ms chain (λ _. shows)))
            ],
          ),
        ),
      )
  more among (Some ns) x None e b = (
    b.0,
    (
      inl b.1.0,
      (
        b.1.1.0,
        λ y a. elim a [
          | inl old ↦ b.1.1.1 y old
          | inr same ↦ (let P : Point → Type 0 = λ z. (ms : List ℕ) → IsChain orders z z ms → shows_strict orders ms ≡ true → IsAtMost ns ms in
              subst P (sym same) (λ ms chain shows. absurd (no_chain orders x x true e ms chain (λ _. shows))))
        ],
      ),
    ),
  )
  more among (Some ns) x (Some xs) e b =
      let first : IsFirstChain orders x x true xs = found_first orders x x true xs e in
      let told : Compared xs ns (is_before xs ns) = compared xs ns in
      elim (cases_Bool (is_before xs ns)) [
        | inl holds ↦ rw holds (
          x,
          (
            inr refl,
            (
              first,
              λ y a. elim a [
                | inl old ↦ (λ ms chain shows. most_trans xs ns ms (inr (less_of xs ns first.chain.0 (told.if_true holds))) (b.1.1.1 y old ms chain shows))
                | inr same ↦ (let P : Point → Type 0 = λ z. (ms : List ℕ) → IsChain orders z z ms → shows_strict orders ms ≡ true → IsAtMost xs ms in
                    subst P (sym same) (λ ms chain shows. first.first ms chain (λ _. shows)))
              ],
            ),
          ),
        )
        | inr other ↦ rw other (
          b.0,
          (
            inl b.1.0,
            (
              b.1.1.0,
              λ y a. elim a [
                | inl old ↦ b.1.1.1 y old
                | inr same ↦ (let P : Point → Type 0 = λ z. (ms : List ℕ) → IsChain orders z z ms → shows_strict orders ms ≡ true → IsAtMost ns ms in
                    subst P (sym same) (λ ms chain shows. most_trans ns xs ms (most_of b.0 x ns xs b.1.1.0 first (told.if_false other)) (first.first ms chain (λ _. shows))))
              ],
            ),
          ),
        )
      ]

  widen : (f g : Point → Type 0) (best : Option (List ℕ)) → ((y : Point) → g y → f y) → ((y : Point) → f y → g y) → FirstOf f best → FirstOf g best
  widen f g None wider back b = λ y a. b y (wider y a)
  widen f g (Some ns) wider back b = (b.0, (back b.0 b.1.0, (b.1.1.0, λ y a. b.1.1.1 y (wider y a))))

  item : (x y : Point) (xs : List Point) → Contains (x ∷ xs) y → (y ≡ x) ⊎ Contains xs y
  item x y xs (zero, h, c) = inl (sym c)
  item x y xs (suc k, h, c) = inr (k, omega (arith, h), c)

  of_item : (x y : Point) (xs : List Point) → (y ≡ x) ⊎ Contains xs y → Contains (x ∷ xs) y
  of_item x y xs (inl same) = (0, omega arith, sym same)
  of_item x y xs (inr c) = (suc c.0, omega (arith, c.1), c.2)

  earliest_first : (points : List Point) (among : Point → Type 0) (best : Option (List ℕ)) → FirstOf among best →
      FirstOf (λ y. among y ⊎ Contains points y) (earliest orders best points)
  earliest_first [] among best b =
      widen among (λ y. among y ⊎ Contains [] y) best (λ y a. elim a [ inl old ↦ old | inr c ↦ absurd (omega (arith, c.1)) ]) (λ y a. inl a) b
  earliest_first (x ∷ xs) among best b =
      let step : FirstOf (λ y. among y ⊎ (y ≡ x)) (earlier best (first_chain orders x x true)) = more among best x (first_chain orders x x true) refl b in
      widen (λ y. (among y ⊎ (y ≡ x)) ⊎ Contains xs y) (λ y. among y ⊎ Contains (x ∷ xs) y) (earliest orders (earlier best (first_chain orders x x true)) xs)
      (λ y a. elim a [ inl old ↦ inl (inl old) | inr c ↦ elim (item x y xs c) [ inl same ↦ inl (inr same) | inr later ↦ inr later ] ])
      (λ y a. elim a [ inl early ↦ elim early [ inl old ↦ inl old | inr same ↦ inr (of_item x y xs (inl same)) ] | inr later ↦ inr (of_item x y xs (inr later)) ])
      (earliest_first xs (λ y. among y ⊎ (y ≡ x)) (earlier best (first_chain orders x x true)) step)

  pub from_all : (points : List Point) → FirstOf (λ y. ⊥ ⊎ Contains points y) (earliest orders None points)
  from_all points = earliest_first points (λ y. ⊥) None (λ y a. absurd a)

  -- the first cycle of all from the points
  pub record FirstAmong (points : List Point) (ns : List ℕ) : Type 0 where
    pub point : Point
    pub among : Contains points point
    pub chain : IsFirstChain orders point point true ns
    pub first : (z : Point) → Contains points z → (ms : List ℕ) → IsChain orders z z ms → shows_strict orders ms ≡ true → IsAtMost ns ms

  pub cycle_first : (points : List Point) (o : Option (List ℕ)) → earliest orders None points ≡ o → (y : Point) → Contains points y → (ms : List ℕ) → IsChain orders y y ms → shows_strict orders ms ≡ true →
      FirstAmong points (unwrap_or o [])
  cycle_first points None e y c ms chain shows =
      let P : Option (List ℕ) → Type 0 = FirstOf (λ z. ⊥ ⊎ Contains points z) in
      absurd ((subst P e (from_all points)) y (inr c) ms chain shows)
  cycle_first points (Some ns) e y c ms chain shows =
      let P : Option (List ℕ) → Type 0 = FirstOf (λ z. ⊥ ⊎ Contains points z) in
      let b : FirstOf (λ z. ⊥ ⊎ Contains points z) (Some ns) = subst P e (from_all points) in
      record { point = b.0; among = elim b.1.0 [ inl never ↦ absurd never | inr here ↦ here ]; chain = b.1.1.0; first = λ z d. b.1.1.1 z (inr d) }
