-- What follows from a list of orders and one more is what followed before, with the order joined.
use Rattle.std.proofs.Common.{zero, suc, ◌≡◌, ℕ, ℤ, List, [], ◌∷◌, ◌++◌, Bool, true, false, ◌+◌, ◌<◌, length, arith, refl, subst, ap, sym, ◌∙◌, length-append}
use Rattle.std.specs.Prelude.{◌||◌}
use Rattle.std.proofs.lemmas.List.{get_or_append_left, get_or-append-add}
use Rattle.order_laws.specs.declared.Order.{Order}
use Rattle.order_laws.specs.declared.Point.{Point}
use Rattle.order_laws.specs.Chains.{order_at, no_order, IsWalk, shows_strict, Follows, HasCycle}
use Rattle.order_laws.specs.Closure.{joined, reach_between}
use Rattle.order_laws.specs.Tables.{is_strict, IsPoint, boundaries, date_points, built_at, IsOrderSet}
use Rattle.order_laws.specs.Wider.{plain_placing}
use Rattle.order_laws.proofs.Base.{Reaches, reaches, follows}
use Rattle.order_laws.proofs.Closure.{entry_follows, follows_entry, strict_is, one_base}
use Rattle.order_laws.proofs.Members.{in_range, among_left}
use Rattle.order_laws.proofs.Placed.{built_same, map_same, computed_orderly}
use Rattle.order_extension.proofs.Further.{each_joined}
use Rattle.dating_bounds.specs.Pushed.{IsPush, pushed, pushed_at}
use Rattle.dating_bounds.proofs.Pushing.{built_joined}

-- the order stands in the list
abbrev pub Holds : List Order → Order → Type 0
Holds orders o = (n : ℕ) × ((n < length orders) × (order_at orders n ≡ o))

abbrev pub AreHeld : List Order → List Order → Type 0
AreHeld orders others = (n : ℕ) → n < length orders → Holds others (order_at orders n)

pub holds_left : (xs ys : List Order) (o : Order) → Holds xs o → Holds (xs ++ ys) o
holds_left xs ys o h = (h.0, (omega (arith, h.1.0, length-append xs ys), get_or_append_left xs ys no_order h.0 h.1.0 ∙ h.1.1))

pub holds_right : (xs ys : List Order) (o : Order) → Holds ys o → Holds (xs ++ ys) o
holds_right xs ys o h = (length xs + h.0, (omega (arith, h.1.0, length-append xs ys), get_or-append-add xs ys h.0 no_order ∙ h.1.1))

pub holds_later : (r : Order) (xs : List Order) (o : Order) → Holds xs o → Holds (r ∷ xs) o
holds_later r xs o h = (suc h.0, (omega (arith, h.1.0), h.1.1))

pub holds_first : (xs : List Order) (o : Order) → Holds (o ∷ xs) o
holds_first xs o = (zero, (omega arith, refl))

pub held_one : (o : Order) (others : List Order) → Holds others o → AreHeld (o ∷ []) others
held_one o others h zero l = h
held_one o others h (suc n) l = absurd (omega arith)

pub held_front : (o : Order) (xs others : List Order) → Holds others o → AreHeld xs others → AreHeld (o ∷ xs) others
held_front o xs others h k zero l = h
held_front o xs others h k (suc n) l = k n (omega arith)

-- a walk along orders that stand in another list too
record Carried (others : List Order) (x y : Point) (strict : Bool) : Type 0 where
  path : List ℕ
  walk : IsWalk others x y path
  shows : shows_strict others path ≡ strict

carry : (orders others : List Order) → AreHeld orders others → (x y : Point) (ns : List ℕ) → IsWalk orders x y ns → Carried others x y (shows_strict orders ns)
carry orders others held x y [] w = record { path = []; walk = w; shows = refl }
carry orders others held x y (n ∷ ns) w =
    let here = held n w.0 in
    let rest : Carried others (order_at orders n).high y (shows_strict orders ns) = carry orders others held (order_at orders n).high y ns w.2 in
    let P : Point → Type 0 = λ z. IsWalk others z y rest.path in record {
      path = here.0 ∷ rest.path;
      walk = (here.1.0, ap (λ (o : Order). o.low) here.1.1 ∙ w.1, subst P (sym (ap (λ (o : Order). o.high) here.1.1)) rest.walk);
      shows = ap (λ (o : Order). o.strict || shows_strict others rest.path) here.1.1 ∙ ap (λ b. (order_at orders n).strict || b) rest.shows;
    }

pub follows_held : (orders others : List Order) → AreHeld orders others → (x y : Point) (b : Bool) → Follows orders x y b → Follows others x y b
follows_held orders others held x y b f =
    let r : Reaches orders x y b = reaches orders x y b f in
    let c : Carried others x y (shows_strict orders r.path) = carry orders others held x y r.path r.walk in
    follows others x y b (record { path = c.path; walk = c.walk; shows = λ e. c.shows ∙ r.shows e })

-- lists with the same orders tell the same
pub reach_held : (orders others : List Order) (extents dates : ℕ) → AreHeld orders others → AreHeld others orders → (x y : Point) →
    IsPoint extents dates x → IsPoint extents dates y → reach_between orders x y ≡ reach_between others x y
reach_held orders others extents dates there back x y in_x in_y =
    one_base others extents dates (reach_between orders) (record {
      strictly = λ u v in_u in_v. (
        λ e. follows_held orders others there u v true (entry_follows orders u v true (ap is_strict e)),
        λ f. strict_is (reach_between orders u v) (follows_entry orders u v true (follows_held others orders back u v true f)),
      );
      known = λ u v in_u in_v. (
        λ e. follows_held orders others there u v false (entry_follows orders u v false e),
        λ f. follows_entry orders u v false (follows_held others orders back u v false f),
      );
    }) x y in_x in_y

pub held_behind : (orders : List Order) (o : Order) → AreHeld (orders ++ o ∷ []) (o ∷ orders)
held_behind orders o = each_joined (Holds (o ∷ orders)) orders (o ∷ []) (λ n h. holds_later o orders (order_at orders n) (n, (h, refl))) (held_one o (o ∷ orders) (holds_first orders o))

pub held_before : (orders : List Order) (o : Order) → AreHeld (o ∷ orders) (orders ++ o ∷ [])
held_before orders o = held_front o orders (orders ++ o ∷ []) (holds_right orders (o ∷ []) o (holds_first [] o)) (λ n h. holds_left orders (o ∷ []) (order_at orders n) (n, (h, refl)))

pub added : (orders : List Order) (o : Order) (extents dates : ℕ) (x y : Point) → IsPoint extents dates x → IsPoint extents dates y →
    reach_between (orders ++ o ∷ []) x y ≡ joined (reach_between orders) o x y
added orders o extents dates x y in_x in_y = reach_held (orders ++ o ∷ []) (o ∷ orders) extents dates (held_behind orders o) (held_before orders o) x y in_x in_y

-- the plain placing with one more order between a boundary and a date
pub plain_pushed : (orders : List Order) (extents : ℕ) (dates : List ℤ) → IsOrderSet orders extents dates → (HasCycle orders → ⊥) →
    (date : ℕ) → date < length dates → (o : Order) → IsPoint extents (length dates) o.low → IsPoint extents (length dates) o.high →
    IsPush (reach_between orders) date o → plain_placing (orders ++ o ∷ []) extents dates ≡ pushed extents dates (reach_between orders) date o
plain_pushed orders extents dates set none date in_dates o in_low in_high push =
    built_same extents dates (reach_between (orders ++ o ∷ [])) (joined (reach_between orders) o) (λ x y in_x in_y. added orders o extents (length dates) x y in_x in_y)
    ∙ map_same (built_at extents dates (joined (reach_between orders) o)) (pushed_at extents dates (reach_between orders) date o) (boundaries extents)
    (λ x a. built_joined orders extents dates (reach_between orders) set (computed_orderly orders extents dates set none) date in_dates o in_low in_high push x
    (in_range extents (length dates) x (among_left x (boundaries extents) (date_points (length dates)) a)))
