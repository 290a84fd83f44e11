-- The wider table of a boundary is orderly, and breaks what does not follow.
use Rattle.std.proofs.Common.{◌≡◌, ℕ, List, Bool, true, false, ◌<◌, ◌≤◌, arith, inl, inr, refl, ap, sym}
use Rattle.std.specs.Prelude.{◌||◌, ◌⊎◌}
use Rattle.std.proofs.lemmas.Bool.{cases_Bool, cases_lt, true≢false}
use Rattle.order_laws.specs.declared.Order.{Order}
use Rattle.order_laws.specs.declared.Point.{Point}
use Rattle.order_laws.specs.declared.Reach.{Reach}
use Rattle.order_laws.specs.declared.Reach.TheVariants.{None as Nothing, Le, Lt}
use Rattle.order_laws.specs.Tables.{is_known, is_strict, IsPoint, IsOrderly}
use Rattle.order_laws.specs.Wider.{wider, widened}

abbrev level : Reach → ℕ
level Nothing = 0
level Le = 1
level Lt = 2

known_level : (r : Reach) → is_known r ≡ true → 1 ≤ level r
known_level Nothing h = absurd (true≢false (sym h))
known_level Le h = omega arith
known_level Lt h = omega arith

level_known : (r : Reach) → 1 ≤ level r → is_known r ≡ true
level_known Nothing h = absurd (omega arith)
level_known Le h = refl
level_known Lt h = refl

strict_level : (r : Reach) → is_strict r ≡ true → 2 ≤ level r
strict_level Nothing h = absurd (true≢false (sym h))
strict_level Le h = absurd (true≢false (sym h))
strict_level Lt h = omega arith

level_strict : (r : Reach) → 2 ≤ level r → is_strict r ≡ true
level_strict Nothing h = absurd (omega arith)
level_strict Le h = absurd (omega arith)
level_strict Lt h = refl

unknown_level : (r : Reach) → is_known r ≡ false → level r ≡ 0
unknown_level Nothing h = refl
unknown_level Le h = absurd (true≢false h)
unknown_level Lt h = absurd (true≢false h)

level_most : (r : Reach) → level r ≤ 2
level_most Nothing = omega arith
level_most Le = omega arith
level_most Lt = omega arith

widened_known : (xy xz yz : Reach) → 1 ≤ level (widened xy xz yz) → (1 ≤ level yz) ⊎ ((level xy ≤ 1) × (1 ≤ level xz))
widened_known Nothing Nothing Nothing h = absurd (omega arith)
widened_known Nothing Nothing Le h = inl (omega arith)
widened_known Nothing Nothing Lt h = inl (omega arith)
widened_known Nothing Le Nothing h = inr (omega arith, omega arith)
widened_known Nothing Le Le h = inl (omega arith)
widened_known Nothing Le Lt h = inl (omega arith)
widened_known Nothing Lt Nothing h = inr (omega arith, omega arith)
widened_known Nothing Lt Le h = inl (omega arith)
widened_known Nothing Lt Lt h = inl (omega arith)
widened_known Le Nothing Nothing h = absurd (omega arith)
widened_known Le Nothing Le h = inl (omega arith)
widened_known Le Nothing Lt h = inl (omega arith)
widened_known Le Le Nothing h = inr (omega arith, omega arith)
widened_known Le Le Le h = inl (omega arith)
widened_known Le Le Lt h = inl (omega arith)
widened_known Le Lt Nothing h = inr (omega arith, omega arith)
widened_known Le Lt Le h = inl (omega arith)
widened_known Le Lt Lt h = inl (omega arith)
widened_known Lt Nothing Nothing h = absurd (omega arith)
widened_known Lt Nothing Le h = inl (omega arith)
widened_known Lt Nothing Lt h = inl (omega arith)
widened_known Lt Le Nothing h = absurd (omega arith)
widened_known Lt Le Le h = inl (omega arith)
widened_known Lt Le Lt h = inl (omega arith)
widened_known Lt Lt Nothing h = absurd (omega arith)
widened_known Lt Lt Le h = inl (omega arith)
widened_known Lt Lt Lt h = inl (omega arith)

widened_strict : (xy xz yz : Reach) → 2 ≤ level (widened xy xz yz) → (2 ≤ level yz) ⊎ (level xy < level xz)
widened_strict Nothing Nothing Nothing h = absurd (omega arith)
widened_strict Nothing Nothing Le h = absurd (omega arith)
widened_strict Nothing Nothing Lt h = inl (omega arith)
widened_strict Nothing Le Nothing h = inr (omega arith)
widened_strict Nothing Le Le h = inr (omega arith)
widened_strict Nothing Le Lt h = inl (omega arith)
widened_strict Nothing Lt Nothing h = inr (omega arith)
widened_strict Nothing Lt Le h = inr (omega arith)
widened_strict Nothing Lt Lt h = inl (omega arith)
widened_strict Le Nothing Nothing h = absurd (omega arith)
widened_strict Le Nothing Le h = absurd (omega arith)
widened_strict Le Nothing Lt h = inl (omega arith)
widened_strict Le Le Nothing h = absurd (omega arith)
widened_strict Le Le Le h = absurd (omega arith)
widened_strict Le Le Lt h = inl (omega arith)
widened_strict Le Lt Nothing h = inr (omega arith)
widened_strict Le Lt Le h = inr (omega arith)
widened_strict Le Lt Lt h = inl (omega arith)
widened_strict Lt Nothing Nothing h = absurd (omega arith)
widened_strict Lt Nothing Le h = absurd (omega arith)
widened_strict Lt Nothing Lt h = inl (omega arith)
widened_strict Lt Le Nothing h = absurd (omega arith)
widened_strict Lt Le Le h = absurd (omega arith)
widened_strict Lt Le Lt h = inl (omega arith)
widened_strict Lt Lt Nothing h = absurd (omega arith)
widened_strict Lt Lt Le h = absurd (omega arith)
widened_strict Lt Lt Lt h = inl (omega arith)

known_widened : (xy xz yz : Reach) → (1 ≤ level yz) ⊎ ((level xy ≤ 1) × (1 ≤ level xz)) → 1 ≤ level (widened xy xz yz)
known_widened Nothing Nothing Nothing h = grind arith
known_widened Nothing Nothing Le h = omega arith
known_widened Nothing Nothing Lt h = omega arith
known_widened Nothing Le Nothing h = omega arith
known_widened Nothing Le Le h = omega arith
known_widened Nothing Le Lt h = omega arith
known_widened Nothing Lt Nothing h = omega arith
known_widened Nothing Lt Le h = omega arith
known_widened Nothing Lt Lt h = omega arith
known_widened Le Nothing Nothing h = grind arith
known_widened Le Nothing Le h = omega arith
known_widened Le Nothing Lt h = omega arith
known_widened Le Le Nothing h = omega arith
known_widened Le Le Le h = omega arith
known_widened Le Le Lt h = omega arith
known_widened Le Lt Nothing h = omega arith
known_widened Le Lt Le h = omega arith
known_widened Le Lt Lt h = omega arith
known_widened Lt Nothing Nothing h = grind arith
known_widened Lt Nothing Le h = omega arith
known_widened Lt Nothing Lt h = omega arith
known_widened Lt Le Nothing h = grind arith
known_widened Lt Le Le h = omega arith
known_widened Lt Le Lt h = omega arith
known_widened Lt Lt Nothing h = grind arith
known_widened Lt Lt Le h = omega arith
known_widened Lt Lt Lt h = omega arith

strict_widened : (xy xz yz : Reach) → (2 ≤ level yz) ⊎ (level xy < level xz) → 2 ≤ level (widened xy xz yz)
strict_widened Nothing Nothing Nothing h = grind arith
strict_widened Nothing Nothing Le h = grind arith
strict_widened Nothing Nothing Lt h = omega arith
strict_widened Nothing Le Nothing h = omega arith
strict_widened Nothing Le Le h = omega arith
strict_widened Nothing Le Lt h = omega arith
strict_widened Nothing Lt Nothing h = omega arith
strict_widened Nothing Lt Le h = omega arith
strict_widened Nothing Lt Lt h = omega arith
strict_widened Le Nothing Nothing h = grind arith
strict_widened Le Nothing Le h = grind arith
strict_widened Le Nothing Lt h = omega arith
strict_widened Le Le Nothing h = grind arith
strict_widened Le Le Le h = grind arith
strict_widened Le Le Lt h = omega arith
strict_widened Le Lt Nothing h = omega arith
strict_widened Le Lt Le h = omega arith
strict_widened Le Lt Lt h = omega arith
strict_widened Lt Nothing Nothing h = grind arith
strict_widened Lt Nothing Le h = grind arith
strict_widened Lt Nothing Lt h = omega arith
strict_widened Lt Le Nothing h = grind arith
strict_widened Lt Le Le h = grind arith
strict_widened Lt Le Lt h = omega arith
strict_widened Lt Lt Nothing h = grind arith
strict_widened Lt Lt Le h = grind arith
strict_widened Lt Lt Lt h = omega arith

-- r, s and t are what is known of a to b, of b to c and of a to c
record Joins (r s t : Reach) : Type 0 where
  known : 1 ≤ level r → 1 ≤ level s → 1 ≤ level t
  strict : 1 ≤ level r → 1 ≤ level s → (2 ≤ level r) ⊎ (2 ≤ level s) → 2 ≤ level t

-- along y to z the level of x does not fall
along_level : (xy xz yz : Reach) → Joins xy yz xz → 1 ≤ level yz → level xy ≤ level xz
along_level xy xz yz j h =
    elim (cases_lt 0 (level xy)) [
      | inl some ↦ elim (cases_lt 1 (level xy)) [
        | inl two ↦ omega (arith, level_most xy, j.strict some h (inl two))
        | inr one ↦ omega (arith, j.known some h)
      ]
      | inr none ↦ omega arith
    ]

-- along the wider relation too
along_wider : (xy xz yz : Reach) → Joins xy yz xz → 1 ≤ level (widened xy xz yz) → level xy ≤ level xz
along_wider xy xz yz j h = elim (widened_known xy xz yz h) [ inl p ↦ along_level xy xz yz j p | inr q ↦ omega (arith, q.0, q.1) ]

widened_joins_known : (xy xz xw yz zw yw : Reach) → Joins xy yz xz → Joins xz zw xw → Joins yz zw yw →
    1 ≤ level (widened xy xz yz) → 1 ≤ level (widened xz xw zw) → 1 ≤ level (widened xy xw yw)
widened_joins_known xy xz xw yz zw yw a b d h k =
    let low : level xy ≤ level xz = along_wider xy xz yz a h in
    let high : level xz ≤ level xw = along_wider xz xw zw b k in
    elim (widened_known xy xz yz h) [
      | inl p ↦ elim (widened_known xz xw zw k) [
        | inl q ↦ known_widened xy xw yw (inl (d.known p q))
        | inr q ↦ known_widened xy xw yw (inr (omega (arith, q.0), q.1))
      ]
      | inr p ↦ known_widened xy xw yw (inr (p.0, omega (arith, p.1)))
    ]

widened_joins_strict : (xy xz xw yz zw yw : Reach) → Joins xy yz xz → Joins xz zw xw → Joins yz zw yw →
    1 ≤ level (widened xy xz yz) → 1 ≤ level (widened xz xw zw) →
    (2 ≤ level (widened xy xz yz)) ⊎ (2 ≤ level (widened xz xw zw)) → 2 ≤ level (widened xy xw yw)
widened_joins_strict xy xz xw yz zw yw a b d h k s =
    let low : level xy ≤ level xz = along_wider xy xz yz a h in
    let high : level xz ≤ level xw = along_wider xz xw zw b k in
    elim (cases_lt (level xy) (level xw)) [
      | inl rises ↦ strict_widened xy xw yw (inr rises)
      | inr level_stays ↦ elim s [
        | inl first ↦ elim (widened_strict xy xz yz first) [
          | inl p ↦ elim (widened_known xz xw zw k) [
            | inl q ↦ strict_widened xy xw yw (inl (d.strict (omega arith) q (inl p)))
            | inr q ↦ absurd (omega (arith, q.0, q.1, a.strict (omega (arith, q.1)) (omega arith) (inr p)))
          ]
          | inr p ↦ absurd (omega arith)
        ]
        | inr second ↦ elim (widened_strict xz xw zw second) [
          | inl p ↦ elim (widened_known xy xz yz h) [
            | inl q ↦ strict_widened xy xw yw (inl (d.strict q (omega arith) (inr p)))
            | inr q ↦ absurd (omega (arith, q.0, q.1, b.strict q.1 (omega arith) (inr p)))
          ]
          | inr p ↦ absurd (omega arith)
        ]
      ]
    ]

or_cases : (a b : Bool) → (a || b) ≡ true → (a ≡ true) ⊎ (b ≡ true)
or_cases true b h = inl refl
or_cases false b h = inr h

not_strict_le : (r : Reach) → 1 ≤ level r → (2 ≤ level r → ⊥) → r ≡ Le
not_strict_le Nothing h k = absurd (omega arith)
not_strict_le Le h k = refl
not_strict_le Lt h k = absurd (k (omega arith))

module _ (orders : List Order) (extents dates : ℕ) (table : Point → Point → Reach) (good : IsOrderly orders extents dates table)
    (x : Point) (in_x : IsPoint extents dates x) where
  joins_of : (y z w : Point) → IsPoint extents dates y → IsPoint extents dates z → IsPoint extents dates w → Joins (table y z) (table z w) (table y w)
  joins_of y z w in_y in_z in_w = record {
    known = λ h k. known_level _ (good.joins y z w in_y in_z in_w (level_known _ h) (level_known _ k));
    strict = λ h k s. strict_level _ (good.joins_strictly y z w in_y in_z in_w (level_known _ h) (level_known _ k)
        (elim s [
          | inl p ↦ (let e : is_strict (table y z) ≡ true = level_strict _ p in rw e)
          | inr p ↦ (let e : is_strict (table z w) ≡ true = level_strict _ p in elim (cases_Bool (is_strict (table y z))) [ inl f ↦ rw f | inr f ↦ rw (f, e) ])
        ]));
  }

  le_self : (y : Point) → IsPoint extents dates y → level (table y y) ≡ 1
  le_self y in_y = ap level (good.itself y in_y)

  pub wider_orderly : IsOrderly orders extents dates (wider table x)
  wider_orderly = record {
    itself = λ y in_y. not_strict_le _
        (known_widened (table x y) (table x y) (table y y) (inl (omega (arith, le_self y in_y))))
        (λ h. elim (widened_strict (table x y) (table x y) (table y y) h) [ inl p ↦ omega (arith, le_self y in_y) | inr p ↦ omega arith ]);
    joins = λ y z w in_y in_z in_w h k.
        level_known _ (widened_joins_known (table x y) (table x z) (table x w) (table y z) (table z w) (table y w)
        (joins_of x y z in_x in_y in_z) (joins_of x z w in_x in_z in_w) (joins_of y z w in_y in_z in_w) (known_level _ h) (known_level _ k));
    joins_strictly = λ y z w in_y in_z in_w h k s.
        level_strict _ (widened_joins_strict (table x y) (table x z) (table x w) (table y z) (table z w) (table y w)
        (joins_of x y z in_x in_y in_z) (joins_of x z w in_x in_z in_w) (joins_of y z w in_y in_z in_w) (known_level _ h) (known_level _ k)
        (elim (or_cases _ _ s) [ inl p ↦ inl (strict_level _ p) | inr p ↦ inr (strict_level _ p) ]));
    keeps = λ n h. level_known _ (known_widened _ _ _ (inl (known_level _ (good.keeps n h))));
    keeps_strictly = λ n h e. level_strict _ (strict_widened _ _ _ (inl (strict_level _ (good.keeps_strictly n h e))));
  }

  -- what does not follow from x is put before x
  pub put_before : (y : Point) → is_known (table x y) ≡ false → is_strict (wider table x y x) ≡ true
  put_before y h =
      level_strict _ (strict_widened (table x y) (table x x) (table y x) (inr (omega (arith, unknown_level _ h, le_self x in_x))))

  -- what follows from x, and not strictly, is put on x
  pub put_on : (y : Point) → IsPoint extents dates y → table x y ≡ Le → (is_known (wider table x y x) ≡ true) × (is_known (wider table x x y) ≡ true)
  put_on y in_y h = (
    level_known _ (known_widened (table x y) (table x x) (table y x) (inr (omega (arith, ap level h), omega (arith, le_self x in_x)))),
    level_known _ (known_widened (table x x) (table x y) (table x y) (inl (omega (arith, ap level h)))),
  )
