-- The plain and the delaying placings of a list of orders, and what every placing has.
use Rattle.std.proofs.Common.{zero, suc, ◌≡◌, ℕ, ℤ, List, [], ◌∷◌, Bool, true, false, cond, ◌*◌, ◌≤◌, length, map, arith, inl, inr, refl, subst, ap, sym, ◌∙◌}
use Rattle.std.specs.Prelude.{◌||◌, ◌&&◌, ◌==◌}
use Rattle.std.proofs.lemmas.Bool.{cases_Bool, true≢false}
use Rattle.std.proofs.lemmas.Int.{ints}
use Rattle.std.proofs.lemmas.List.{length-map}
use Rattle.order_laws.specs.declared.Order.{Order}
use Rattle.order_laws.specs.declared.Point.{Point}
use Rattle.order_laws.specs.declared.Point.TheVariants.{Date}
use Rattle.order_laws.specs.declared.Position.{Position}
use Rattle.order_laws.specs.declared.Reach.{Reach}
use Rattle.order_laws.specs.declared.Reach.TheVariants.{None as Nothing, Le, Lt}
use Rattle.order_laws.specs.Positions.{Stand, IsBefore}
use Rattle.order_laws.specs.Chains.{Follows, HasCycle}
use Rattle.order_laws.specs.Closure.{reach_between}
use Rattle.order_laws.specs.Placings.{IsSatisfied, IsConsistent, AlwaysStand, position_at}
use Rattle.order_laws.specs.Tables.{is_known, is_strict, IsPoint, boundaries, date_points, all_points, floor_of, floor_instant, count_where, counts, built, built_at, IsOrderSet, IsOrderly}
use Rattle.order_laws.specs.Wider.{wider, plain_placing, delaying_placing}
use Rattle.order_laws.proofs.Base.{base_orderly}
use Rattle.order_laws.proofs.Built.{Among}
use Rattle.order_laws.proofs.Closure.{computed_base, entry_follows, follows_entry}
use Rattle.order_laws.proofs.Hold.{stand_twice, never_before_self, walk_stands, stand_same}
use Rattle.order_laws.proofs.LawD.{built_stands, built_satisfies, placed, known_of_strict}
use Rattle.order_laws.proofs.Members.{length-boundaries, in_range, among_left}
use Rattle.order_laws.proofs.Wider.{wider_orderly, put_before, put_on}

-- tables with the same entries build the same placing
pub count_same : (f g : Point → Bool) (xs : List Point) → ((x : Point) → Among x xs → f x ≡ g x) → count_where f xs ≡ count_where g xs
count_same f g [] h = refl
count_same f g (x ∷ xs) h =
    let here : f x ≡ g x = h x (inl refl) in
    omega (arith, count_same f g xs (λ z a. h z (inr a)), ap {B = ℕ} (λ b. cond b 1 0) here)

pub map_same : (f g : Point → Position) (xs : List Point) → ((x : Point) → Among x xs → f x ≡ g x) → map f xs ≡ map g xs
map_same f g [] h = refl
map_same f g (x ∷ xs) h =
    let here : f x ≡ g x = h x (inl refl) in
    let rest : map f xs ≡ map g xs = map_same f g xs (λ z a. h z (inr a)) in
    ap (λ (p : Position). p ∷ map f xs) here ∙ ap (λ ps. g x ∷ ps) rest

module _ (extents : ℕ) (dates : List ℤ) (table other : Point → Point → Reach)
    (same : (x y : Point) → IsPoint extents (length dates) x → IsPoint extents (length dates) y → table x y ≡ other x y) where
  floor_same : (n : ℕ) → n ≤ length dates → (p : Point) → IsPoint extents (length dates) p → floor_of table n p ≡ floor_of other n p
  floor_same zero h p in_p = refl
  floor_same (suc k) h p in_p =
      let entry : table (Date k) p ≡ other (Date k) p = same (Date k) p (omega arith) in_p in
      let below : floor_of table k p ≡ floor_of other k p = floor_same k (omega arith) p in_p in
      ap (λ (r : Reach). cond (is_known r) (suc k) (floor_of table k p)) entry ∙ ap (λ n. cond (is_known (other (Date k) p)) (suc k) n) below

  counts_same : (p q : Point) → IsPoint extents (length dates) p → IsPoint extents (length dates) q → counts table (length dates) p q ≡ counts other (length dates) p q
  counts_same p q in_p in_q =
      let entry : table q p ≡ other q p = same q p in_q in_p in
      let of_p : floor_of table (length dates) p ≡ floor_of other (length dates) p = floor_same (length dates) (omega arith) p in_p in
      let of_q : floor_of table (length dates) q ≡ floor_of other (length dates) q = floor_same (length dates) (omega arith) q in_q in
      ap (λ (r : Reach). is_strict r && (floor_of table (length dates) q == floor_of table (length dates) p)) entry
      ∙ ap (λ n. is_strict (other q p) && (n == floor_of table (length dates) p)) of_q
      ∙ ap (λ n. is_strict (other q p) && (floor_of other (length dates) q == n)) of_p

  position_same : (p : Point) → IsPoint extents (length dates) p → built_at extents dates table p ≡ built_at extents dates other p
  position_same p in_p =
      let of_p : floor_of table (length dates) p ≡ floor_of other (length dates) p = floor_same (length dates) (omega arith) p in_p in
      let ranks : count_where (counts table (length dates) p) (all_points extents (length dates)) ≡ count_where (counts other (length dates) p) (all_points extents (length dates)) =
      count_same _ _ (all_points extents (length dates)) (λ q a. counts_same p q in_p (in_range extents (length dates) q a)) in
      ap {B = Position} (λ n. record { instant = floor_instant dates n; rank = count_where (counts table (length dates) p) (all_points extents (length dates)) }) of_p
      ∙ ap {B = Position} (λ n. record { instant = floor_instant dates (floor_of other (length dates) p); rank = n }) ranks

  pub built_same : built extents dates table ≡ built extents dates other
  built_same =
      map_same (built_at extents dates table) (built_at extents dates other) (boundaries extents)
      (λ x a. position_same x (in_range extents (length dates) x (among_left x (boundaries extents) (date_points (length dates)) a)))

-- the placing built over an orderly table keeps what the table knows
module _ (orders : List Order) (extents : ℕ) (dates : List ℤ) (table : Point → Point → Reach)
    (set : IsOrderSet orders extents dates) (good : IsOrderly orders extents (length dates) table) where
  pub stands_at : (strict : Bool) (y z : Point) → IsPoint extents (length dates) y → IsPoint extents (length dates) z →
      is_known (table y z) ≡ true → (strict ≡ true → is_strict (table y z) ≡ true) →
      Stand strict (position_at dates (built extents dates table) y) (position_at dates (built extents dates table) z)
  stands_at strict y z in_y in_z known strictly =
      let P : Position → Type 0 = λ p. Stand strict p (position_at dates (built extents dates table) z) in
      let Q : Position → Type 0 = λ p. Stand strict (built_at extents dates table y) p in
      subst P (placed orders extents dates table set good y in_y)
      (subst Q (placed orders extents dates table set good z in_z)
      (built_stands orders extents dates table set good strict y z in_y in_z known strictly))

  pub built_length : length (built extents dates table) ≡ 2 * extents
  built_length = length-map (boundaries extents) (built_at extents dates table) ∙ length-boundaries extents

same_position : (p q : Position) → Stand false p q → Stand false q p → p ≡ q
same_position p q h k =
    let instants : p.instant ≡ q.instant = grind (arith, ints) in
    let ranks : p.rank ≡ q.rank = grind (arith, ints) in
    ap {B = Position} (λ i. record { instant = i; rank = p.rank }) instants ∙ ap {B = Position} (λ r. record { instant = q.instant; rank = r }) ranks

weaker : (b : Bool) (p q : Position) → Stand b p q → Stand false p q
weaker true p q h = grind (arith, ints)
weaker false p q h = h

le_is : (r : Reach) → is_known r ≡ true → is_strict r ≡ false → r ≡ Le
le_is Nothing h k = absurd (true≢false (sym h))
le_is Le h k = refl
le_is Lt h k = absurd (true≢false k)

is_false : (b : Bool) → (b ≡ true → ⊥) → b ≡ false
is_false true h = absurd (h refl)
is_false false h = refl

or_true : (b : Bool) → (b || true) ≡ true
or_true true = refl
or_true false = refl

-- for orders without a cycle
module _ (orders : List Order) (extents : ℕ) (dates : List ℤ) (set : IsOrderSet orders extents dates) (no_cycle : HasCycle orders → ⊥) where
  pub computed_orderly : IsOrderly orders extents (length dates) (reach_between orders)
  computed_orderly =
      base_orderly orders extents (length dates) (reach_between orders) set.low_in_range set.high_in_range no_cycle (computed_base orders extents (length dates))

  pub plain_satisfies : IsSatisfied orders dates (plain_placing orders extents dates)
  plain_satisfies = built_satisfies orders extents dates (reach_between orders) set computed_orderly

  pub consistent : IsConsistent orders dates extents
  consistent = (plain_placing orders extents dates, (built_length orders extents dates (reach_between orders) set computed_orderly, plain_satisfies))

  pub wide : (x : Point) → IsPoint extents (length dates) x → IsOrderly orders extents (length dates) (wider (reach_between orders) x)
  wide x in_x = wider_orderly orders extents (length dates) (reach_between orders) computed_orderly x in_x

  pub delaying_satisfies : (x : Point) → IsPoint extents (length dates) x → IsSatisfied orders dates (delaying_placing orders extents dates x)
  delaying_satisfies x in_x = built_satisfies orders extents dates (wider (reach_between orders) x) set (wide x in_x)

  pub delayed_before : (x y : Point) → IsPoint extents (length dates) x → IsPoint extents (length dates) y → (Follows orders x y false → ⊥) →
      IsBefore (position_at dates (delaying_placing orders extents dates x) y) (position_at dates (delaying_placing orders extents dates x) x)
  delayed_before x y in_x in_y h =
      let unknown : is_known (reach_between orders x y) ≡ false = is_false _ (λ k. h (entry_follows orders x y false k)) in
      let s : is_strict (wider (reach_between orders) x y x) ≡ true = put_before orders extents (length dates) (reach_between orders) computed_orderly x in_x y unknown in
      stands_at orders extents dates (wider (reach_between orders) x) set (wide x in_x) true y x in_y in_x (known_of_strict _ s) (λ _. s)

  pub delayed_on : (x y : Point) → IsPoint extents (length dates) x → IsPoint extents (length dates) y → Follows orders x y false → (Follows orders x y true → ⊥) →
      position_at dates (delaying_placing orders extents dates x) y ≡ position_at dates (delaying_placing orders extents dates x) x
  delayed_on x y in_x in_y h k =
      let entry : reach_between orders x y ≡ Le = le_is _ (follows_entry orders x y false h) (is_false _ (λ e. k (entry_follows orders x y true e))) in
      let on = put_on orders extents (length dates) (reach_between orders) computed_orderly x in_x y in_y entry in
      same_position _ _
      (stands_at orders extents dates (wider (reach_between orders) x) set (wide x in_x) false y x in_y in_x on.0 (λ e. absurd (true≢false (sym e))))
      (stands_at orders extents dates (wider (reach_between orders) x) set (wide x in_x) false x y in_x in_y on.1 (λ e. absurd (true≢false (sym e))))

  here : (x y : Point) → IsPoint extents (length dates) x → (strict : Bool) → AlwaysStand orders dates extents x y strict →
      Stand strict (position_at dates (delaying_placing orders extents dates x) x) (position_at dates (delaying_placing orders extents dates x) y)
  here x y in_x strict always =
      always (delaying_placing orders extents dates x) (built_length orders extents dates (wider (reach_between orders) x) set (wide x in_x)) (delaying_satisfies x in_x)

  known_always : (x y : Point) → IsPoint extents (length dates) x → IsPoint extents (length dates) y → (strict : Bool) →
      AlwaysStand orders dates extents x y strict → is_known (reach_between orders x y) ≡ true
  known_always x y in_x in_y strict always =
      let placing : List Position = delaying_placing orders extents dates x in
      elim (cases_Bool (is_known (reach_between orders x y))) [
        | inl e ↦ e
        | inr e ↦ absurd (never_before_self (position_at dates placing x)
            (let P : Bool → Type 0 = λ b. Stand b (position_at dates placing x) (position_at dates placing x) in
            subst P (or_true strict) (stand_twice strict true (position_at dates placing x) (position_at dates placing y) (position_at dates placing x)
            (here x y in_x strict always)
            (delayed_before x y in_x in_y (λ f. true≢false (sym (follows_entry orders x y false f) ∙ e))))))
      ]

  strict_always : (x y : Point) → IsPoint extents (length dates) x → IsPoint extents (length dates) y →
      AlwaysStand orders dates extents x y true → is_strict (reach_between orders x y) ≡ true
  strict_always x y in_x in_y always =
      let placing : List Position = delaying_placing orders extents dates x in
      elim (cases_Bool (is_strict (reach_between orders x y))) [
        | inl e ↦ e
        | inr e ↦ absurd (never_before_self (position_at dates placing x)
            (let on : position_at dates placing y ≡ position_at dates placing x =
            delayed_on x y in_x in_y (entry_follows orders x y false (known_always x y in_x in_y true always)) (λ f. true≢false (sym (follows_entry orders x y true f) ∙ e)) in
            let P : Position → Type 0 = λ p. Stand true (position_at dates placing x) p in
            subst P on (here x y in_x true always)))
      ]

  pub always_follows : (x y : Point) → IsPoint extents (length dates) x → IsPoint extents (length dates) y → (strict : Bool) →
      AlwaysStand orders dates extents x y strict → Follows orders x y strict
  always_follows x y in_x in_y true always = entry_follows orders x y true (strict_always x y in_x in_y always)
  always_follows x y in_x in_y false always = entry_follows orders x y false (known_always x y in_x in_y false always)

pub follows_always : (orders : List Order) (extents : ℕ) (dates : List ℤ) (x y : Point) (strict : Bool) → Follows orders x y strict →
    AlwaysStand orders dates extents x y strict
follows_always orders extents dates x y true f =
    λ placing size sat.
    (let P : Bool → Type 0 = λ b. Stand b (position_at dates placing x) (position_at dates placing y) in
    subst P f.1.1 (walk_stands orders dates placing sat x y f.0 f.1.0.1))
follows_always orders extents dates x y false (inl e) = λ placing size sat. stand_same _ _ (ap (position_at dates placing) e)
follows_always orders extents dates x y false (inr f) = λ placing size sat. weaker _ _ _ (walk_stands orders dates placing sat x y f.0 f.1.1)
