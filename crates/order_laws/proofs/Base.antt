-- The table of what follows is orderly, where there is no cycle.
use Rattle.std.proofs.Common.{◌≡◌, ℕ, List, [], ◌∷◌, ◌++◌, Bool, true, false, ◌<◌, length, arith, inl, inr, refl, subst, ap, sym}
use Rattle.std.specs.Prelude.{◌||◌}
use Rattle.std.proofs.lemmas.Bool.{cases_Bool, true≢false}
use Rattle.order_laws.specs.declared.Order.{Order}
use Rattle.order_laws.specs.declared.Point.{Point}
use Rattle.order_laws.specs.declared.Reach.{Reach}
use Rattle.order_laws.specs.declared.Reach.TheVariants.{None as Nothing, Le, Lt}
use Rattle.order_laws.specs.Chains.{order_at, IsWalk, shows_strict, Follows, HasCycle}
use Rattle.order_laws.specs.Tables.{is_known, is_strict, IsPoint, IsOrderly, IsBase}

module _ (orders : List Order) where
  pub walk-append : (x y z : Point) (ms ns : List ℕ) → IsWalk orders x y ms → IsWalk orders y z ns → IsWalk orders x z (ms ++ ns)
  walk-append x y z [] ns v w = let P : Point → Type 0 = λ p. IsWalk orders p z ns in subst P (sym v) w
  walk-append x y z (m ∷ ms) ns v w = (v.0, v.1, walk-append (order_at orders m).high y z ms ns v.2 w)

  pub strict-append : (ms ns : List ℕ) → shows_strict orders (ms ++ ns) ≡ (shows_strict orders ms || shows_strict orders ns)
  strict-append [] ns = refl
  strict-append (m ∷ ms) ns =
      elim (cases_Bool (order_at orders m).strict) [
        | inl e ↦ rw e
        | inr e ↦ rw e (strict-append ms ns)
      ]

  -- what follows, as a walk that may be empty
  pub record Reaches (x y : Point) (strict : Bool) : Type 0 where
    pub path : List ℕ
    pub walk : IsWalk orders x y path
    pub shows : strict ≡ true → shows_strict orders path ≡ true

  pub reaches : (x y : Point) (strict : Bool) → Follows orders x y strict → Reaches x y strict
  reaches x y true f = record { path = f.0; walk = f.1.0.1; shows = λ _. f.1.1 }
  reaches x y false (inl e) = record { path = []; walk = e; shows = λ h. absurd (true≢false (sym h)) }
  reaches x y false (inr f) = record { path = f.0; walk = f.1.1; shows = λ h. absurd (true≢false (sym h)) }

  strict_is_long : (ns : List ℕ) → shows_strict orders ns ≡ true → 0 < length ns
  strict_is_long [] h = absurd (true≢false (sym h))
  strict_is_long (n ∷ ns) h = omega arith

  pub follows : (x y : Point) (strict : Bool) → Reaches x y strict → Follows orders x y strict
  follows x y true r = (r.path, ((strict_is_long r.path (r.shows refl), r.walk), r.shows refl))
  follows x y false r =
      let go : (ns : List ℕ) → IsWalk orders x y ns → Follows orders x y false = λ ns. elim ns as (λ ms. IsWalk orders x y ms → Follows orders x y false) [
        | [] ↦ λ e. inl e
        | m ∷ ms ↦ λ w. inr (m ∷ ms, (omega arith, w))
      ] in
      go r.path r.walk

  pub reaches_join : (x y z : Point) (a b : Bool) → Reaches x y a → Reaches y z b → Reaches x z (a || b)
  reaches_join x y z a b r s = record {
    path = r.path ++ s.path;
    walk = walk-append x y z r.path s.path r.walk s.walk;
    shows = λ h. rw (strict-append r.path s.path) (elim (cases_Bool a) [
      | inl e ↦ (let q : shows_strict orders r.path ≡ true = r.shows e in rw q)
      | inr e ↦ (let q : shows_strict orders s.path ≡ true = s.shows (rw e at h) in elim (cases_Bool (shows_strict orders r.path)) [ inl k ↦ rw k | inr k ↦ rw (k, q) ])
    ]);
  }

  pub path_joined : (x y z : Point) (a b : Bool) (r : Reaches x y a) (s : Reaches y z b) → (reaches_join x y z a b r s).path ≡ r.path ++ s.path
  unfolding reaches_join
  path_joined x y z a b r s = refl

  pub reaches_once : (n : ℕ) → n < length orders → Reaches (order_at orders n).low (order_at orders n).high (order_at orders n).strict
  reaches_once n h = record {
    path = n ∷ [];
    walk = (h, refl, refl);
    shows = λ e. rw e;
  }

strict_is : (r : Reach) → is_strict r ≡ true → r ≡ Lt
strict_is Nothing h = absurd (true≢false (sym h))
strict_is Le h = absurd (true≢false (sym h))
strict_is Lt h = refl

le_is : (r : Reach) → is_known r ≡ true → (r ≡ Lt → ⊥) → r ≡ Le
le_is Nothing h k = absurd (true≢false (sym h))
le_is Le h k = refl
le_is Lt h k = absurd (k refl)

module _ (orders : List Order) (extents dates : ℕ) (table : Point → Point → Reach)
    (low_in_range : (n : ℕ) → n < length orders → IsPoint extents dates (order_at orders n).low)
    (high_in_range : (n : ℕ) → n < length orders → IsPoint extents dates (order_at orders n).high)
    (no_cycle : HasCycle orders → ⊥) (base : IsBase orders extents dates table) where
  reaches_known : (x y : Point) → IsPoint extents dates x → IsPoint extents dates y → is_known (table x y) ≡ true → Reaches orders x y (is_strict (table x y))
  reaches_known x y in_x in_y h =
      elim (cases_Bool (is_strict (table x y))) [
        | inl e ↦ rw e (reaches orders x y true ((base.strictly x y in_x in_y).0 (strict_is _ e)))
        | inr e ↦ rw e (reaches orders x y false ((base.known x y in_x in_y).0 h))
      ]

  pub base_orderly : IsOrderly orders extents dates table
  base_orderly = record {
    itself = λ x in_x. le_is _ ((base.known x x in_x in_x).1 (inl refl)) (λ e. no_cycle (x, (base.strictly x x in_x in_x).0 e));
    joins = λ x y z in_x in_y in_z h k.
        (base.known x z in_x in_z).1 (follows orders x z false (reaches_join orders x y z false false
        (reaches orders x y false ((base.known x y in_x in_y).0 h)) (reaches orders y z false ((base.known y z in_y in_z).0 k))));
    joins_strictly = λ x y z in_x in_y in_z h k s.
        (let r : Reaches orders x z (is_strict (table x y) || is_strict (table y z)) = reaches_join orders x y z _ _ (reaches_known x y in_x in_y h) (reaches_known y z in_y in_z k) in
        let r' : Reaches orders x z true = (let P : Bool → Type 0 = Reaches orders x z in subst P s r) in
        ap is_strict ((base.strictly x z in_x in_z).1 (follows orders x z true r')));
    keeps = λ n h.
        (base.known _ _ (low_in_range n h) (high_in_range n h)).1 (inr (n ∷ [], (omega arith, (h, refl, refl))));
    keeps_strictly = λ n h e.
        (let r : Reaches orders (order_at orders n).low (order_at orders n).high true = (let P : Bool → Type 0 = Reaches orders (order_at orders n).low (order_at orders n).high in subst P e (reaches_once orders n h)) in
        ap is_strict ((base.strictly _ _ (low_in_range n h) (high_in_range n h)).1 (follows orders _ _ true r)));
  }
