-- Orders without a cycle, with one order more in front.
use Rattle.std.proofs.Common.{zero, suc, ◌≡◌, ◌<◌, ◌*◌, ℕ, ℤ, Bool, true, false, cond, List, ◌∷◌, length, arith, inl, inr, refl, subst, ap, sym, ◌∙◌}
use Rattle.std.specs.Prelude.{◌||◌, ◌⊎◌}
use Rattle.std.proofs.lemmas.Bool.{cases_Bool, true≢false}
use Rattle.order_laws.specs.declared.Order.{Order}
use Rattle.order_laws.specs.declared.Point.{Point}
use Rattle.order_laws.specs.declared.Position.{Position}
use Rattle.order_laws.specs.declared.Reach.{Reach}
use Rattle.order_laws.specs.declared.Reach.TheVariants.{None as Nothing, Le, Lt}
use Rattle.order_laws.specs.Chains.{order_at, HasCycle}
use Rattle.order_laws.specs.Closure.{reach_between, followed_by, stronger}
use Rattle.order_laws.specs.Placings.{IsSatisfied, position_at}
use Rattle.order_laws.specs.Positions.{Stand}
use Rattle.order_laws.specs.Tables.{IsPoint, IsOrderSet, IsOrderly, is_known, is_strict}
use Rattle.order_laws.specs.Wider.{wider, delaying_placing}
use Rattle.std.proofs.lemmas.Int.{ints}
use Rattle.order_laws.proofs.Closure.{entry_follows, follows_entry}
use Rattle.order_laws.proofs.Hold.{cycle_refutes, stand_same}
use Rattle.order_laws.proofs.Placed.{computed_orderly, wide, delaying_satisfies, delayed_before, delayed_on, built_length}
use Rattle.crm_allen.specs.Relations.{assumed}

-- what follows, weakly and strictly
abbrev pub IsLe : List Order → Point → Point → Type 0
IsLe orders x y = is_known (reach_between orders x y) ≡ true

abbrev pub IsLt : List Order → Point → Point → Type 0
IsLt orders x y = is_strict (reach_between orders x y) ≡ true

pub no_nothing : {A : Type 0} → true ≡ false → A
no_nothing e = absurd (true≢false e)

known_of_strict : (r : Reach) → is_strict r ≡ true → is_known r ≡ true
known_of_strict Nothing h = no_nothing (sym h)
known_of_strict Le h = no_nothing (sym h)
known_of_strict Lt h = refl

pub lt_le : (orders : List Order) (x y : Point) → IsLt orders x y → IsLe orders x y
lt_le orders x y h = known_of_strict (reach_between orders x y) h

-- what is known of a way through is known of its parts
record IsThrough (r s : Reach) : Type 0 where
  first : is_known r ≡ true
  last : is_known s ≡ true

through : (r a s : Reach) → is_known (followed_by r (followed_by a s)) ≡ true → IsThrough r s
through Nothing a s h = no_nothing (sym h)
through Le Nothing s h = no_nothing (sym h)
through Lt Nothing s h = no_nothing (sym h)
through Le Le Nothing h = no_nothing (sym h)
through Le Lt Nothing h = no_nothing (sym h)
through Lt Le Nothing h = no_nothing (sym h)
through Lt Lt Nothing h = no_nothing (sym h)
through Le Le Le h = record { first = refl; last = refl }
through Le Le Lt h = record { first = refl; last = refl }
through Le Lt Le h = record { first = refl; last = refl }
through Le Lt Lt h = record { first = refl; last = refl }
through Lt Le Le h = record { first = refl; last = refl }
through Lt Le Lt h = record { first = refl; last = refl }
through Lt Lt Le h = record { first = refl; last = refl }
through Lt Lt Lt h = record { first = refl; last = refl }

either_known : (r q : Reach) → is_known (stronger r q) ≡ true → (is_known r ≡ true) ⊎ (is_known q ≡ true)
either_known Nothing Nothing h = no_nothing (sym h)
either_known Nothing Le h = inr refl
either_known Nothing Lt h = inr refl
either_known Le q h = inl refl
either_known Lt q h = inl refl

either_strict : (r q : Reach) → is_strict (stronger r q) ≡ true → (is_strict r ≡ true) ⊎ (is_known q ≡ true)
either_strict Nothing Nothing h = no_nothing (sym h)
either_strict Nothing Le h = inr refl
either_strict Nothing Lt h = inr refl
either_strict Le Nothing h = no_nothing (sym h)
either_strict Le Le h = inr refl
either_strict Le Lt h = inr refl
either_strict Lt q h = inl refl

-- from u to v by the order x to y
pub record IsBy (orders : List Order) (x y u v : Point) : Type 0 where
  pub first : IsLe orders u x
  pub last : IsLe orders y v

by_way : (orders : List Order) (x y u v : Point) (a : Reach) →
    is_known (followed_by (reach_between orders u x) (followed_by a (reach_between orders y v))) ≡ true → IsBy orders x y u v
by_way orders x y u v a h =
    let t : IsThrough (reach_between orders u x) (reach_between orders y v) = through (reach_between orders u x) a (reach_between orders y v) h in
    record { first = t.first; last = t.last }

-- what follows with one order more followed before, or follows by the order
pub le_before : (orders : List Order) (x y : Point) (strict : Bool) (u v : Point) → IsLe (assumed x y strict ∷ orders) u v → IsLe orders u v ⊎ IsBy orders x y u v
le_before orders x y strict u v h =
    elim (either_known (reach_between orders u v) (followed_by (reach_between orders u x) (followed_by (cond (strict || is_strict (reach_between orders y x)) Lt Le) (reach_between orders y v))) h) [
      | inl e ↦ inl e
      | inr e ↦ inr (by_way orders x y u v _ e)
    ]

pub lt_before : (orders : List Order) (x y : Point) (strict : Bool) (u v : Point) → IsLt (assumed x y strict ∷ orders) u v → IsLt orders u v ⊎ IsBy orders x y u v
lt_before orders x y strict u v h =
    elim (either_strict (reach_between orders u v) (followed_by (reach_between orders u x) (followed_by (cond (strict || is_strict (reach_between orders y x)) Lt Le) (reach_between orders y v))) h) [
      | inl e ↦ inl e
      | inr e ↦ inr (by_way orders x y u v _ e)
    ]

-- where neither is before the other, a weak order between the two leaves it so
level_entry : (r s : Reach) → is_strict r ≡ false → is_strict s ≡ false →
    is_strict (stronger r (followed_by Le (followed_by (cond (false || is_strict s) Lt Le) Le))) ≡ false
level_entry Nothing Nothing h k = refl
level_entry Nothing Le h k = refl
level_entry Le Nothing h k = refl
level_entry Le Le h k = refl
level_entry Lt s h k = no_nothing h
level_entry Nothing Lt h k = no_nothing k
level_entry Le Lt h k = no_nothing k

-- x at or before y, and y at or before x
abbrev pub level : List Order → Point → Point → List Order
level orders x y = assumed y x false ∷ assumed x y false ∷ orders

pub is_false : (b : Bool) → (b ≡ true → ⊥) → b ≡ false
is_false true h = absurd (h refl)
is_false false h = refl

weaker_stand : (p q : Position) → Stand true p q → Stand false p q
weaker_stand p q h = grind (arith, ints)

or_true : (b : Bool) → (b || true) ≡ true
or_true true = refl
or_true false = refl

module _ (extents : ℕ) (dates : List ℤ) where
  -- orders of a set that have no cycle
  pub record IsAcyclic (orders : List Order) : Type 0 where
    pub set : IsOrderSet orders extents dates
    pub acyclic : HasCycle orders → ⊥

  abbrev pub IsIn : Point → Type 0
  IsIn x = IsPoint extents (length dates) x

  pub orderly : (orders : List Order) → IsAcyclic orders → IsOrderly orders extents (length dates) (reach_between orders)
  orderly orders good = computed_orderly orders extents dates good.set good.acyclic

  pub never_lt : (orders : List Order) → IsAcyclic orders → (x : Point) → IsIn x → IsLt orders x x → ⊥
  never_lt orders good x in_x h = true≢false (sym h ∙ ap is_strict ((orderly orders good).itself x in_x))

  pub lt_or : (orders : List Order) → IsAcyclic orders → (x y z : Point) → IsIn x → IsIn y → IsIn z → IsLt orders x y → IsLe orders y z → IsLt orders x z
  lt_or orders good x y z in_x in_y in_z h k =
      (orderly orders good).joins_strictly x y z in_x in_y in_z (lt_le orders x y h) k (ap (λ b. b || is_strict (reach_between orders y z)) h)

  pub or_lt : (orders : List Order) → IsAcyclic orders → (x y z : Point) → IsIn x → IsIn y → IsIn z → IsLe orders x y → IsLt orders y z → IsLt orders x z
  or_lt orders good x y z in_x in_y in_z h k =
      (orderly orders good).joins_strictly x y z in_x in_y in_z h (lt_le orders y z k)
      (ap (λ b. is_strict (reach_between orders x y) || b) k ∙ or_true (is_strict (reach_between orders x y)))

  -- the set with one order more
  pub each_of : (P : Order → Type 0) (o : Order) (orders : List Order) → P o → ((n : ℕ) → n < length orders → P (order_at orders n)) →
      (n : ℕ) → n < length (o ∷ orders) → P (order_at (o ∷ orders) n)
  each_of P o orders here there zero lt = here
  each_of P o orders here there (suc n) lt = there n (omega (arith, lt))

  set_with : (o : Order) (orders : List Order) → IsOrderSet orders extents dates → IsIn o.low → IsIn o.high → IsOrderSet (o ∷ orders) extents dates
  set_with o orders set low high = record {
    low_in_range = each_of (λ (p : Order). IsIn p.low) o orders low set.low_in_range;
    high_in_range = each_of (λ (p : Order). IsIn p.high) o orders high set.high_in_range;
    ascending = set.ascending;
    neighbours = λ k h. let f = set.neighbours k h in (suc f.0, (omega (arith, f.1.0), f.1.1, f.1.2, f.1.3));
    starts_before_ends = λ k h. let f = set.starts_before_ends k h in (suc f.0, (omega (arith, f.1.0), f.1.1, f.1.2, f.1.3));
  }

  abbrev pub IsStanding : List Position → Order → Type 0
  IsStanding placing o = Stand o.strict (position_at dates placing o.low) (position_at dates placing o.high)

  pub satisfied_with : (placing : List Position) (o : Order) (orders : List Order) → IsStanding placing o → IsSatisfied orders dates placing → IsSatisfied (o ∷ orders) dates placing
  satisfied_with placing o orders here there = each_of (IsStanding placing) o orders here there

  delay_size : (orders : List Order) → IsAcyclic orders → (x : Point) → IsIn x → length (delaying_placing orders extents dates x) ≡ 2 * extents
  delay_size orders good x in_x =
      built_length orders extents dates (wider (reach_between orders) x) good.set (wide orders extents dates good.set good.acyclic x in_x)

  -- one order more makes no cycle where the placing that delays its high point satisfies it
  grown : (orders : List Order) → IsAcyclic orders → (o : Order) → IsIn o.low → IsIn o.high →
      IsStanding (delaying_placing orders extents dates o.high) o → IsAcyclic (o ∷ orders)
  grown orders good o in_low in_high stands = record {
    set = set_with o orders good.set in_low in_high;
    acyclic = λ cycle. cycle_refutes (o ∷ orders) dates extents cycle (
      delaying_placing orders extents dates o.high,
      (
        delay_size orders good o.high in_high,
        satisfied_with (delaying_placing orders extents dates o.high) o orders stands
            (delaying_satisfies orders extents dates good.set good.acyclic o.high in_high),
      ),
    );
  }

  -- x before y may be added where y is not known to be at or before x
  pub strict_added : (orders : List Order) → IsAcyclic orders → (x y : Point) → IsIn x → IsIn y → (IsLe orders y x → ⊥) → IsAcyclic (assumed x y true ∷ orders)
  strict_added orders good x y in_x in_y open_way =
      grown orders good (assumed x y true) in_x in_y
      (delayed_before orders extents dates good.set good.acyclic y x in_y in_x (λ f. open_way (follows_entry orders y x false f)))

  weak_stand : (orders : List Order) → IsAcyclic orders → (x y : Point) → IsIn x → IsIn y → (IsLt orders y x → ⊥) →
      Stand false (position_at dates (delaying_placing orders extents dates y) x) (position_at dates (delaying_placing orders extents dates y) y)
  weak_stand orders good x y in_x in_y open_way =
      elim (cases_Bool (is_known (reach_between orders y x))) [
        | inl e ↦ stand_same _ _ (delayed_on orders extents dates good.set good.acyclic y x in_y in_x (entry_follows orders y x false e) (λ f. open_way (follows_entry orders y x true f)))
        | inr e ↦ weaker_stand _ _ (delayed_before orders extents dates good.set good.acyclic y x in_y in_x (λ f. true≢false (sym (follows_entry orders y x false f) ∙ e)))
      ]

  -- x at or before y may be added where y is not known to be before x
  pub weak_added : (orders : List Order) → IsAcyclic orders → (x y : Point) → IsIn x → IsIn y → (IsLt orders y x → ⊥) → IsAcyclic (assumed x y false ∷ orders)
  weak_added orders good x y in_x in_y open_way = grown orders good (assumed x y false) in_x in_y (weak_stand orders good x y in_x in_y open_way)

  level_open : (orders : List Order) → IsAcyclic orders → (x y : Point) → IsIn x → IsIn y → (IsLt orders x y → ⊥) → (IsLt orders y x → ⊥) →
      IsLt (assumed x y false ∷ orders) x y → ⊥
  level_open orders good x y in_x in_y there back h =
      let ix : reach_between orders x x ≡ Le = (orderly orders good).itself x in_x in
      let iy : reach_between orders y y ≡ Le = (orderly orders good).itself y in_y in
      let e : is_strict (stronger (reach_between orders x y) (followed_by Le (followed_by (cond (false || is_strict (reach_between orders y x)) Lt Le) Le))) ≡ false =
      level_entry (reach_between orders x y) (reach_between orders y x) (is_false _ there) (is_false _ back) in
      let P : Reach → Reach → Type 0 = λ a b. is_strict (stronger (reach_between orders x y) (followed_by a (followed_by (cond (false || is_strict (reach_between orders y x)) Lt Le) b))) ≡ true in
      let h1 : P Le (reach_between orders y y) = subst (λ a. P a (reach_between orders y y)) ix h in
      let h2 : P Le Le = subst (λ b. P Le b) iy h1 in
      true≢false (sym h2 ∙ e)

  pub level_added : (orders : List Order) → IsAcyclic orders → (x y : Point) → IsIn x → IsIn y → (IsLt orders x y → ⊥) → (IsLt orders y x → ⊥) →
      IsAcyclic (level orders x y)
  level_added orders good x y in_x in_y there back =
      weak_added (assumed x y false ∷ orders) (weak_added orders good x y in_x in_y back) y x in_y in_x
      (level_open orders good x y in_x in_y there back)
