-- The relations of a list are those that follow.
use Rattle.std.proofs.Common.{zero, suc, ◌≡◌, ◌<◌, ℕ, List, [], ◌∷◌, Bool, true, get_or, arith, inl, inr, refl, sym, subst}
use Rattle.std.specs.Prelude.{◌≢◌, if◌then◌else◌}
use Rattle.std.specs.List.{flat_map, Contains}
use Rattle.std.proofs.lemmas.Bool.{true≢false}
use Rattle.std.proofs.lemmas.Bool.Decides.{eqb_tells}
use Rattle.order_laws.specs.declared.Order.{Order}
use Rattle.order_laws.specs.declared.Reach.{Reach}
use Rattle.order_laws.specs.declared.Reach.TheVariants.{None as Nothing, Le, Lt}
use Rattle.order_laws.specs.Tables.{is_known, is_strict}
use Rattle.order_core.specs.declared.sides.Side.{Side}
use Rattle.order_core.specs.declared.sides.Side.TheVariants.{StartEnd, StartStart, EndStart, EndEnd}
use Rattle.reason_report.specs.declared.relations.Relation.{Relation}
use Rattle.order_core.specs.Sides.{all_sides}
use Rattle.order_analysis.specs.Reasons.{reach_at}
use Rattle.reason_report.specs.Relations.{relation_by, relation_at, relations_between, relations_from, relations_of}
use Rattle.reason_report.proofs.Membership.{source_of, element_of}

-- the relation of a side that says what follows
abbrev pub relation_with : List Order → ℕ → ℕ → Side → Relation
relation_with orders a b side = record { left = a; right = b; side = side; strict = is_strict (reach_at orders a b side) }

-- of these two periods a relation says what follows, and something does
pub record IsShown (orders : List Order) (a b : ℕ) (r : Relation) : Type 0 where
  pub side : Side
  pub says : r ≡ relation_with orders a b side
  pub known : is_known (reach_at orders a b side) ≡ true

only_one : {Y : Type 0} (x y : Y) (k : ℕ) → k < 1 → get_or (x ∷ []) k y ≡ y → y ≡ x
only_one x y zero l e = sym e
only_one x y (suc k) l e = absurd (omega (arith, l))

by_says : (a b : ℕ) (side : Side) (reach : Reach) (r : Relation) → Contains (relation_by a b side reach) r
    → (r ≡ record { left = a; right = b; side = side; strict = is_strict reach }) × (is_known reach ≡ true)
by_says a b side Nothing r h = absurd (omega (arith, h.1))
by_says a b side Le r h = (only_one _ r h.0 h.1 h.2, refl)
by_says a b side Lt r h = (only_one _ r h.0 h.1 h.2, refl)

shown_sides : (orders : List Order) (a b : ℕ) (r : Relation) → Contains (flat_map (relation_at orders a b) all_sides) r → IsShown orders a b r
shown_sides orders a b r h =
    let found = source_of (relation_at orders a b) all_sides r h in
    let says = by_says a b found.source (reach_at orders a b found.source) r found.holds in
    record { side = found.source; says = says.0; known = says.1 }

pub shown_between : (orders : List Order) (a b : ℕ) (r : Relation) → Contains (relations_between orders a b) r → (a ≢ b) × IsShown orders a b r
shown_between orders a b r h =
    let P : Bool → Type 0 = λ same. Contains (if same then [] else flat_map (relation_at orders a b) all_sides) r in
    elim (eqb_tells a b) [
      | inl same ↦ absurd (let nothing : P true = subst P same.0 h in omega (arith, nothing.1))
      | inr apart ↦ (apart.1, shown_sides orders a b r (subst P apart.0 h))
    ]

-- where a relation comes from
pub record IsOne (orders : List Order) (periods : List ℕ) (r : Relation) : Type 0 where
  pub left : ℕ
  pub right : ℕ
  pub left_in : Contains periods left
  pub right_in : Contains periods right
  pub apart : left ≢ right
  pub shown : IsShown orders left right r

pub one_of : (orders : List Order) (periods : List ℕ) (r : Relation) → Contains (relations_of orders periods) r → IsOne orders periods r
one_of orders periods r h =
    let row = source_of (relations_from orders periods) periods r h in
    let pair = source_of (relations_between orders row.source) periods r row.holds in
    let shown = shown_between orders row.source pair.source r pair.holds in
    record { left = row.source; right = pair.source; left_in = row.among; right_in = pair.among; apart = shown.0; shown = shown.1 }

by_there : (a b : ℕ) (side : Side) (reach : Reach) → is_known reach ≡ true
    → Contains (relation_by a b side reach) (record { left = a; right = b; side = side; strict = is_strict reach })
by_there a b side Nothing h = absurd (true≢false (sym h))
by_there a b side Le h = (0, omega arith, refl)
by_there a b side Lt h = (0, omega arith, refl)

place_of : (side : Side) → (k : ℕ) × ((k < 4) × (get_or all_sides k side ≡ side))
place_of StartEnd = (0, (omega arith, refl))
place_of StartStart = (1, (omega arith, refl))
place_of EndStart = (2, (omega arith, refl))
place_of EndEnd = (3, (omega arith, refl))

pub there : (orders : List Order) (periods : List ℕ) (a b : ℕ) (side : Side) → Contains periods a → Contains periods b → a ≢ b
    → is_known (reach_at orders a b side) ≡ true → Contains (relations_of orders periods) (relation_with orders a b side)
there orders periods a b side in_a in_b apart known =
    let r : Relation = relation_with orders a b side in
    let place = place_of side in
    let sides : Contains (flat_map (relation_at orders a b) all_sides) r =
    element_of (relation_at orders a b) all_sides side r place.0 place.1.0 place.1.1 (by_there a b side (reach_at orders a b side) known) in
    let P : Bool → Type 0 = λ same. Contains (if same then [] else flat_map (relation_at orders a b) all_sides) r in
    let between : Contains (relations_between orders a b) r =
    elim (eqb_tells a b) [ inl same ↦ absurd (apart same.1) | inr other ↦ subst P (sym other.0) sides ] in
    element_of (relations_from orders periods) periods a r in_a.0 in_a.1 in_a.2
    (element_of (relations_between orders a) periods b r in_b.0 in_b.1 in_b.2 between)
