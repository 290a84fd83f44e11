-- Walks along the orders of one list become walks along those of another.
use Rattle.std.proofs.Common.{◌≡◌, ℕ, zero, suc, ◌<◌, ◌⊎◌, inl, inr, Bool, true, false, ◌||◌, List, [], ◌∷◌, ◌++◌, length, get_or, refl, sym, ap, subst, ◌∙◌, arith}
use Rattle.order_laws.specs.declared.Point.{Point}
use Rattle.order_laws.specs.declared.Order.{Order}
use Rattle.order_laws.specs.Chains.{no_order, order_at, IsWalk, IsChain, shows_strict, Follows, HasCycle}
use Rattle.record_laws.proofs.Members.{In}

pub at_in : {X : Type 0} (xs : List X) (n : ℕ) (d : X) → n < length xs → In (get_or xs n d) xs
at_in [] n d lt = absurd (omega arith)
at_in (x ∷ xs) zero d lt = inl refl
at_in (x ∷ xs) (suc n) d lt = inr (at_in xs n d (omega arith))

pub in_at : {X : Type 0} (xs : List X) (x d : X) → In x xs → (n : ℕ) × (n < length xs) × (get_or xs n d ≡ x)
in_at [] x d h = absurd h
in_at (y ∷ ys) x d (inl e) = (zero, omega arith, sym e)
in_at (y ∷ ys) x d (inr h) = let r = in_at ys x d h in (suc r.0, omega (arith, r.1), r.2)

pub in_left : {X : Type 0} (xs ys : List X) (x : X) → In x xs → In x (xs ++ ys)
in_left [] ys x h = absurd h
in_left (z ∷ zs) ys x (inl e) = inl e
in_left (z ∷ zs) ys x (inr h) = inr (in_left zs ys x h)

pub in_right : {X : Type 0} (xs ys : List X) (x : X) → In x ys → In x (xs ++ ys)
in_right [] ys x h = h
in_right (z ∷ zs) ys x h = inr (in_right zs ys x h)

pub in_either : {X : Type 0} (xs ys : List X) (x : X) → In x (xs ++ ys) → In x xs ⊎ In x ys
in_either [] ys x h = inr h
in_either (z ∷ zs) ys x (inl e) = inl (inl e)
in_either (z ∷ zs) ys x (inr h) = elim (in_either zs ys x h) [ inl a ↦ inl (inr a) | inr b ↦ inr b ]

-- the same order between points that are moved
pub record IsMoved (f : Point → Point) (o p : Order) : Type 0 where
  pub low : p.low ≡ f o.low
  pub high : p.high ≡ f o.high
  pub strict : p.strict ≡ o.strict

-- each order of the one list is, moved, one of the other
abbrev pub Become : (Point → Point) → List Order → List Order → Type 0
Become f xs ys = (o : Order) → In o xs → (p : Order) × In p ys × IsMoved f o p

module _ (f : Point → Point) (xs ys : List Order) (become : Become f xs ys) where
  next : (n : ℕ) → n < length xs → (k : ℕ) × (k < length ys) × IsMoved f (order_at xs n) (order_at ys k)
  next n lt =
      let b = become (order_at xs n) (at_in xs n no_order lt) in
      let i = in_at ys b.0 no_order b.1 in
      (i.0, i.1, subst (λ (p : Order). IsMoved f (order_at xs n) p) (sym i.2) b.2)

  walk_becomes : (x y : Point) (ns : List ℕ) → IsWalk xs x y ns → (ks : List ℕ) × IsWalk ys (f x) (f y) ks × (length ks ≡ length ns) × (shows_strict ys ks ≡ shows_strict xs ns)
  walk_becomes x y [] w = ([], ap f w, refl, refl)
  walk_becomes x y (n ∷ ns) w =
      let o = next n w.0 in
      let r = walk_becomes (order_at xs n).high y ns w.2 in (
        o.0 ∷ r.0,
        (o.1, o.2.low ∙ ap f w.1, subst (λ (p : Point). IsWalk ys p (f y) r.0) (sym o.2.high) r.1),
        ap (λ (k : ℕ). suc k) r.2,
        ap (λ (b : Bool). b || shows_strict ys r.0) o.2.strict ∙ ap (λ (b : Bool). (order_at xs n).strict || b) r.3,
      )

  chain_becomes : (x y : Point) (ns : List ℕ) → IsChain xs x y ns → (ks : List ℕ) × IsChain ys (f x) (f y) ks × (shows_strict ys ks ≡ shows_strict xs ns)
  chain_becomes x y ns c = let r = walk_becomes x y ns c.1 in (r.0, (omega (arith, c.0, r.2), r.1), r.3)

  pub follows_becomes : (x y : Point) (strict : Bool) → Follows xs x y strict → Follows ys (f x) (f y) strict
  follows_becomes x y true c = let r = chain_becomes x y c.0 c.1.0 in (r.0, (r.1, r.2 ∙ c.1.1))
  follows_becomes x y false (inl e) = inl (ap f e)
  follows_becomes x y false (inr c) = let r = chain_becomes x y c.0 c.1 in inr (r.0, r.1)

  pub cycle_becomes : HasCycle xs → HasCycle ys
  cycle_becomes c = (f c.0, follows_becomes c.0 c.0 true c.1)
