-- What listed relations, their chains and the cycle stand for.
use Rattle.std.proofs.Common.{◌≡◌, ◌<◌, ℕ, ℤ, List, [], Bool, true, false, length, inl, inr, refl, sym, ap, ◌∙◌, subst}
use Rattle.std.specs.Prelude.{◌≢◌, ◌⊎◌, Option, None, Some, unwrap_or, IsSome}
use Rattle.std.specs.List.{Contains}
use Rattle.std.proofs.lemmas.Bool.{true≢false}
use Rattle.order_laws.specs.declared.Order.{Order}
use Rattle.order_laws.specs.declared.Point.{Point}
use Rattle.order_laws.specs.declared.Reach.{Reach}
use Rattle.order_laws.specs.declared.Reach.TheVariants.{None as Nothing, Le, Lt}
use Rattle.order_laws.specs.Chains.{Follows}
use Rattle.order_laws.specs.ChainSearch.{first_chain, chain_of, first_cycle}
use Rattle.order_laws.specs.Closure.{reach_between, first_strict_loop}
use Rattle.order_laws.specs.FirstChains.{IsChainOf}
use Rattle.order_laws.specs.Placings.{IsConsistent}
use Rattle.order_laws.specs.Tables.{is_known, is_strict, IsOrderSet}
use Rattle.order_laws.proofs.ChainSearch.{cases_option, chain_there, reason_is, cycle_is}
use Rattle.order_laws.proofs.Closure.{has, entry_follows, follows_entry}
use Rattle.order_laws.proofs.Hold.{cycle_refutes}
use Rattle.order_laws.proofs.Loops.{loop_is_first, cycle_decided}
use Rattle.order_laws.proofs.Placed.{consistent}
use Rattle.order_core.specs.Primitives.{points_of, side_of}
use Rattle.order_core.specs.declared.primitives.Primitive.{Primitive}
use Rattle.order_core.specs.declared.sides.Side.{Side}
use Rattle.order_core.specs.declared.sides.Side.TheVariants.{StartEnd, StartStart, EndStart, EndEnd}
use Rattle.reason_report.specs.declared.relations.Relation.{Relation}
use Rattle.reason_report.specs.Answers.{is_enough, is_following}
use Rattle.reason_report.specs.Listings.{IsListed}
use Rattle.order_analysis.specs.Reasons.{reason_of}
use Rattle.order_core.specs.Sides.{left_point, right_point}
use Rattle.order_analysis.specs.Reasons.{reach_at}
use Rattle.reason_report.specs.Relations.{relations_of}
use Rattle.order_core.specs.Sets.{AreExtents}
use Rattle.reason_report.proofs.Listings.{relation_with, one_of, there}

pub extent_of : (extents : ℕ) (periods : List ℕ) (a : ℕ) → AreExtents extents periods → Contains periods a → a < extents
extent_of extents periods a all h = subst (λ (n : ℕ). n < extents) h.2 (all h.0 a h.1)

pub known_of : (strict : Bool) (r : Reach) → has strict r ≡ true → is_known r ≡ true
known_of false r h = h
known_of true Nothing h = absurd (true≢false (sym h))
known_of true Le h = refl
known_of true Lt h = refl

pub enough_has : (strict : Bool) (r : Reach) → is_enough strict r ≡ has strict r
enough_has true r = refl
enough_has false r = refl

-- what a relation says of its strictness and a flag that it meets
met : (r : Relation) (reach : Reach) → r.strict ≡ is_strict reach → is_known reach ≡ true → (strict : Bool) → (strict ≡ true → r.strict ≡ true) → has strict reach ≡ true
met r reach says known false h = known
met r reach says known true h = sym says ∙ h refl

pub listed_follows : (orders : List Order) (periods : List ℕ) (a : ℕ) (p : Primitive) (b : ℕ) → IsListed (relations_of orders periods) a p b
    → Follows orders (points_of p a b).0 (points_of p a b).1 (points_of p a b).2
listed_follows orders periods a p b l =
    let one = one_of orders periods l.relation l.among in
    let left : one.left ≡ a = sym (ap (λ (r : Relation). r.left) one.shown.says) ∙ l.left in
    let right : one.right ≡ b = sym (ap (λ (r : Relation). r.right) one.shown.says) ∙ l.right in
    let side : one.shown.side ≡ side_of p = sym (ap (λ (r : Relation). r.side) one.shown.says) ∙ l.side in
    let reach : reach_at orders one.left one.right one.shown.side ≡ reach_between orders (points_of p a b).0 (points_of p a b).1 =
    ap (λ (k : ℕ). reach_at orders k one.right one.shown.side) left ∙ ap (λ (k : ℕ). reach_at orders a k one.shown.side) right
    ∙ ap (reach_at orders a b) side in
    let strict : l.relation.strict ≡ is_strict (reach_at orders one.left one.right one.shown.side) = ap (λ (r : Relation). r.strict) one.shown.says in
    entry_follows orders (points_of p a b).0 (points_of p a b).1 (points_of p a b).2
    (met l.relation (reach_between orders (points_of p a b).0 (points_of p a b).1) (strict ∙ ap is_strict reach)
    (sym (ap is_known reach) ∙ one.shown.known) (points_of p a b).2 l.strict)

pub follows_listed : (orders : List Order) (periods : List ℕ) (a : ℕ) (p : Primitive) (b : ℕ) → Contains periods a → Contains periods b → a ≢ b
    → Follows orders (points_of p a b).0 (points_of p a b).1 (points_of p a b).2 → IsListed (relations_of orders periods) a p b
follows_listed orders periods a p b in_a in_b apart f =
    let entry : has (points_of p a b).2 (reach_between orders (points_of p a b).0 (points_of p a b).1) ≡ true =
    follows_entry orders (points_of p a b).0 (points_of p a b).1 (points_of p a b).2 f in
    let here : has (points_of p a b).2 (reach_at orders a b (side_of p)) ≡ true = entry in
    record {
      relation = relation_with orders a b (side_of p);
      among = there orders periods a b (side_of p) in_a in_b apart (known_of (points_of p a b).2 (reach_at orders a b (side_of p)) here);
      left = refl;
      right = refl;
      side = refl;
      strict = λ e. (let P : Bool → Type 0 = λ strict. has strict (reach_at orders a b (side_of p)) ≡ true in subst P e here);
    }

apart_points : (side : Side) (a b : ℕ) → a ≢ b → left_point side a ≡ right_point side b → ⊥
apart_points StartEnd a b apart e = cc
apart_points StartStart a b apart e = apart cc
apart_points EndStart a b apart e = cc
apart_points EndEnd a b apart e = apart cc

chain_found : (orders : List Order) (x y : Point) → (x ≡ y → ⊥) → is_known (reach_between orders x y) ≡ true
    → (strict : Bool) → is_strict (reach_between orders x y) ≡ strict → IsSome (first_chain orders x y strict)
chain_found orders x y apart known true s =
    let f = entry_follows orders x y true s in
    chain_there orders x y true f.0 f.1.0 (λ e. f.1.1)
chain_found orders x y apart known false s =
    elim (entry_follows orders x y false known) [
      | inl same ↦ absurd (apart same)
      | inr f ↦ chain_there orders x y false f.0 f.1 (λ e. absurd (true≢false (sym e)))
    ]

reason_there : (orders : List Order) (x y : Point) → IsSome (chain_of orders x y) → IsChainOf orders x y (reason_of orders x y)
reason_there orders x y some =
    elim (cases_option (chain_of orders x y)) [
      | inl nothing ↦ absurd (let P : Option (List ℕ) → Type 0 = λ o. IsSome o in true≢false (sym (subst P nothing some)))
      | inr found ↦
          (let is : reason_of orders x y ≡ found.0 = ap {A = Option (List ℕ)} (λ o. unwrap_or o []) found.1 in
          let P : List ℕ → Type 0 = λ ns. IsChainOf orders x y ns in
          subst P (sym is) (reason_is orders x y found.0 found.1))
    ]

pub listed_chain : (orders : List Order) (periods : List ℕ) (r : Relation) → Contains (relations_of orders periods) r
    → IsChainOf orders (left_point r.side r.left) (right_point r.side r.right) (reason_of orders (left_point r.side r.left) (right_point r.side r.right))
listed_chain orders periods r h =
    let one = one_of orders periods r h in
    let x : Point = left_point one.shown.side one.left in
    let y : Point = right_point one.shown.side one.right in
    let P : Relation → Type 0 =
    λ s. IsChainOf orders (left_point s.side s.left) (right_point s.side s.right) (reason_of orders (left_point s.side s.left) (right_point s.side s.right)) in
    subst P (sym one.shown.says)
    (reason_there orders x y
    (chain_found orders x y (apart_points one.shown.side one.left one.right one.apart) one.shown.known (is_strict (reach_between orders x y)) refl))

pub answer_chain : (orders : List Order) (a : ℕ) (p : Primitive) (b : ℕ) → a ≢ b → is_following orders a p b ≡ true
    → IsChainOf orders (points_of p a b).0 (points_of p a b).1 (reason_of orders (points_of p a b).0 (points_of p a b).1)
answer_chain orders a p b apart e =
    let x : Point = (points_of p a b).0 in
    let y : Point = (points_of p a b).1 in
    let known : is_known (reach_between orders x y) ≡ true =
    known_of (points_of p a b).2 (reach_between orders x y) (sym (enough_has (points_of p a b).2 (reach_between orders x y)) ∙ e) in
    reason_there orders x y (chain_found orders x y (apart_points (side_of p) a b apart) known (is_strict (reach_between orders x y)) refl)

loop_option : (o : Option Point) → (o ≡ None) ⊎ ((x : Point) × (o ≡ Some x))
loop_option None = inl refl
loop_option (Some x) = inr (x, refl)

none_is : (o : Option (List ℕ)) → IsSome o → o ≡ None → ⊥
none_is o some e = let P : Option (List ℕ) → Type 0 = λ z. IsSome z in true≢false (sym (subst P e some))

pub consistent_of : (orders : List Order) (extents : ℕ) (dates : List ℤ) → IsOrderSet orders extents dates
    → first_cycle orders extents (length dates) ≡ None → IsConsistent orders dates extents
consistent_of orders extents dates set e =
    elim (loop_option (first_strict_loop orders extents (length dates))) [
      | inl nothing ↦
          consistent orders extents dates set
          (λ cycle.
          (let there : Option Point → Bool = λ o. elim o as (λ _. Bool) [ None ↦ false | Some _ ↦ true ] in
          true≢false (sym ((cycle_decided orders extents (length dates) set.low_in_range).0 cycle) ∙ ap there nothing)))
      | inr found ↦
          (let loops = (loop_is_first orders extents (length dates) found.0 found.1).loops in
          absurd (none_is (first_chain orders found.0 found.0 true) (chain_there orders found.0 found.0 true loops.0 loops.1.0 (λ h. loops.1.1))
          (rw (found.1, first_cycle) at e)))
    ]

pub of_consistent : (orders : List Order) (extents : ℕ) (dates : List ℤ) → IsConsistent orders dates extents → first_cycle orders extents (length dates) ≡ None
of_consistent orders extents dates some =
    elim (cases_option (first_cycle orders extents (length dates))) [
      | inl nothing ↦ nothing
      | inr found ↦
          (let first = cycle_is orders extents (length dates) found.0 found.1 in
          absurd (cycle_refutes orders dates extents (first.point, first.loop.loops) some))
    ]
