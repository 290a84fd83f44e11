-- The fewest pairs from each cell to a target.
use Rattle.std.proofs.Common.{arith, ◌≡◌, ◌≢◌, ◌<◌, ◌≤◌, ◌+◌, ◌⊎◌, inl, inr, ℕ, true, false, Option, Some, None, List, [], ◌∷◌, length, get_or, set, refl, sym, ap, subst, ◌∙◌, get_or-set_other, get_or-set_same, length-set}
use Rattle.std.specs.Prelude.{nat_lt}
use Rattle.std.proofs.lemmas.Bool.{cases_eq, cases_lt, lt-ltb, le-ltb}
use Rattle.harris_matrix.specs.declared.cells.CellPair.{CellPair}
use Rattle.harris_matrix.specs.Walks.{pair_at, IsWalk, AreStarts, IsForward, IsDistance, AreDistances, length_at, closer, IsNearest}

pub nearest_begins : (pairs : List CellPair) (lengths : List (Option ℕ)) (from : ℕ) → IsNearest pairs lengths from from None
nearest_begins pairs lengths from c h l = absurd (omega arith)

some_is : {a b : ℕ} → Some a ≡ Some b → a ≡ b
some_is e = cc

none_is_not : {a : ℕ} → None ≡ Some a → ⊥
none_is_not e = cc

-- how two tests of numbers come out
less_or : (a b : ℕ) → ((a < b) × (nat_lt a b ≡ true)) ⊎ ((b ≤ a) × (nat_lt a b ≡ false))
less_or a b = elim (cases_lt a b) [
  | inl less ↦ inl (less, lt-ltb a b less)
  | inr more ↦ inr (more, le-ltb a b more)
]

nearest_with : (pairs : List CellPair) (lengths : List (Option ℕ)) (from to : ℕ) (best other : Option ℕ) → from ≤ to →
    IsNearest pairs lengths from to best → length_at pairs lengths to ≡ other → IsNearest pairs lengths from (to + 1) (closer best other)
nearest_with pairs lengths from to None None h m e = λ c l w. elim (cases_eq c to) [
  | inl here ↦ ap (length_at pairs lengths) here ∙ e
  | inr less ↦ m c l (omega arith)
]
nearest_with pairs lengths from to (Some d) None h m e = (
  (λ c x l w f. elim (cases_eq c to) [
    | inl here ↦ absurd (none_is_not (sym e ∙ ap (length_at pairs lengths) (sym here) ∙ f))
    | inr less ↦ m.0 c x l (omega arith) f
  ]),
  (m.1.0, (m.1.1.0, (m.1.1.1.0, omega (arith, m.1.1.1.1), m.1.1.1.2, m.1.1.1.3))),
)
nearest_with pairs lengths from to None (Some e) h m f = (
  (λ c x l w g. elim (cases_eq c to) [
    | inl here ↦ omega (arith, some_is (sym f ∙ ap (length_at pairs lengths) (sym here) ∙ g))
    | inr less ↦ absurd (none_is_not (sym (m c l (omega arith)) ∙ g))
  ]),
  (to, (e, (h, omega arith, f, refl))),
)
nearest_with pairs lengths from to (Some d) (Some e) h m f = elim (less_or (e + 1) d) [
  | inl less ↦ rw less.1 (
    (λ c x l w g. elim (cases_eq c to) [
      | inl here ↦ omega (arith, some_is (sym f ∙ ap (length_at pairs lengths) (sym here) ∙ g))
      | inr before ↦ omega (arith, m.0 c x l (omega arith) g, less.0)
    ]),
    (to, (e, (h, omega arith, f, refl))),
  )
  | inr more ↦ rw more.1 (
    (λ c x l w g. elim (cases_eq c to) [
      | inl here ↦ omega (arith, some_is (sym f ∙ ap (length_at pairs lengths) (sym here) ∙ g), more.0)
      | inr before ↦ m.0 c x l (omega arith) g
    ]),
    (m.1.0, (m.1.1.0, (m.1.1.1.0, omega (arith, m.1.1.1.1), m.1.1.1.2, m.1.1.1.3))),
  )
]

pub nearest_more : (pairs : List CellPair) (lengths : List (Option ℕ)) (from to : ℕ) (best best' : Option ℕ) → from ≤ to →
    IsNearest pairs lengths from to best → best' ≡ closer best (length_at pairs lengths to) → IsNearest pairs lengths from (to + 1) best'
nearest_more pairs lengths from to best best' h m e =
    let P : Option ℕ → Type 0 = IsNearest pairs lengths from (to + 1) in
    subst P (sym e) (nearest_with pairs lengths from to best (length_at pairs lengths to) h m refl)

-- the cells from place p on have their lengths
pub record IsMeasured (count : ℕ) (pairs : List CellPair) (j : ℕ) (cells : List ℕ) (p : ℕ) (lengths : List (Option ℕ)) : Type 0 where
  pub within : p ≤ length cells
  pub size : length lengths ≡ count
  pub bounded : (k e : ℕ) → get_or lengths k None ≡ Some e → e + p ≤ length cells
  pub done : (q : ℕ) → p ≤ q → q < length cells → IsDistance pairs j (get_or cells q 0) (get_or lengths (get_or cells q 0) None)

pub measured_begins : (count : ℕ) (pairs : List CellPair) (j : ℕ) (cells : List ℕ) (lengths : List (Option ℕ)) → length lengths ≡ count →
    ((k : ℕ) → get_or lengths k None ≡ None) → IsMeasured count pairs j cells (length cells) lengths
measured_begins count pairs j cells lengths size none = record {
  within = omega arith;
  size = size;
  bounded = λ k e f. absurd (none_is_not (sym (none k) ∙ f));
  done = λ q h l. absurd (omega arith);
}

module _ (count : ℕ) (pairs : List CellPair) (starts cells : List ℕ) (are_starts : AreStarts count pairs starts) (forward : IsForward count pairs cells) (j : ℕ) where
  -- the second cell of a pair of the cell at p is measured
  ahead : (p c : ℕ) (lengths : List (Option ℕ)) → p < length cells → IsMeasured count pairs j cells (p + 1) lengths →
      c < length pairs → (pair_at pairs c).first ≡ get_or cells p 0 → IsDistance pairs j (pair_at pairs c).second (length_at pairs lengths c)
  ahead p c lengths h m l e =
      let q = forward.whole (pair_at pairs c).second (are_starts.whole c l).1 in
      let P : ℕ → Type 0 = λ x. IsDistance pairs j x (get_or lengths x None) in
      subst P q.1.1 (m.done q.0 (omega (arith, forward.ahead p q.0 c h q.1.0 l e (sym q.1.1))) q.1.0)

  -- of the cell at p, which is not the target
  distance_of : (p : ℕ) (lengths : List (Option ℕ)) (o : Option ℕ) → p < length cells → IsMeasured count pairs j cells (p + 1) lengths →
      get_or cells p 0 ≢ j → IsNearest pairs lengths (get_or starts (get_or cells p 0) 0) (get_or starts (get_or cells p 0 + 1) 0) o →
      IsDistance pairs j (get_or cells p 0) o
  distance_of p lengths o h m other near = by_case o near
    where
      k : ℕ
      k = get_or cells p 0

      range : (c : ℕ) → c < length pairs → (pair_at pairs c).first ≡ k → (get_or starts k 0 ≤ c) × (c < get_or starts (k + 1) 0)
      range c l e = (let w = are_starts.whole c l in
          let P : ℕ → Type 0 = λ x. (get_or starts x 0 ≤ c) × (c < get_or starts (x + 1) 0) in
          subst P e (w.2, w.3))

      no_walk : (x : ℕ) (u : Option ℕ) (cs : List ℕ) → u ≡ None → IsDistance pairs j x u → IsWalk pairs x j cs → ⊥
      no_walk x None cs e dist walk = dist cs walk
      no_walk x (Some d) cs e dist walk = none_is_not (sym e)

      at_least : (x d : ℕ) (u : Option ℕ) (cs : List ℕ) → IsDistance pairs j x u → IsWalk pairs x j cs → ((e : ℕ) → u ≡ Some e → d ≤ e + 1) → d ≤ length cs + 1
      at_least x d None cs dist walk low = absurd (dist cs walk)
      at_least x d (Some e) cs dist walk low = omega (arith, low e refl, dist.1 cs walk)

      some_walk : (x e : ℕ) (u : Option ℕ) → u ≡ Some e → IsDistance pairs j x u → (cs : List ℕ) × (IsWalk pairs x j cs × (length cs ≡ e))
      some_walk x e None f dist = absurd (none_is_not f)
      some_walk x e (Some d) f dist = (dist.0.0, (dist.0.1.0, dist.0.1.1 ∙ some_is f))

      by_case : (o : Option ℕ) → IsNearest pairs lengths (get_or starts k 0) (get_or starts (k + 1) 0) o → IsDistance pairs j k o
      by_case None near = none
        where
          none : (cs : List ℕ) → ¬ IsWalk pairs k j cs
          none [] walk = other walk
          none (c ∷ cs) walk = (let r = range c walk.0 walk.1 in
              no_walk (pair_at pairs c).second (length_at pairs lengths c) cs (near c r.0 r.1) (ahead p c lengths h m walk.0 walk.1) walk.2)
      by_case (Some d) near = (found, least)
        where
          found : (cs : List ℕ) × (IsWalk pairs k j cs × (length cs ≡ d))
          found = (let c : ℕ = near.1.0 in let e : ℕ = near.1.1.0 in
              let own = are_starts.own k c (forward.in_range p h) near.1.1.1.0 near.1.1.1.1 in
              let rest = some_walk (pair_at pairs c).second e (length_at pairs lengths c) near.1.1.1.2 (ahead p c lengths h m own.0 own.1) in
              (c ∷ rest.0, ((own.0, own.1, rest.1.0), omega (arith, rest.1.1, near.1.1.1.3))))

          least : (cs : List ℕ) → IsWalk pairs k j cs → d ≤ length cs
          least [] walk = absurd (other walk)
          least (c ∷ cs) walk = (let r = range c walk.0 walk.1 in
              omega (
                arith,
                at_least (pair_at pairs c).second d (length_at pairs lengths c) cs (ahead p c lengths h m walk.0 walk.1) walk.2
                    (λ e f. near.0 c e r.0 r.1 f),
              ))

  put : (p : ℕ) (lengths : List (Option ℕ)) (o : Option ℕ) → p < length cells → IsMeasured count pairs j cells (p + 1) lengths →
      IsDistance pairs j (get_or cells p 0) o → ((e : ℕ) → o ≡ Some e → e + p ≤ length cells) → IsMeasured count pairs j cells p (set lengths (get_or cells p 0) o)
  put p lengths o h m dist low = record {
    within = omega arith;
    size = simp length-set m.size;
    bounded = bounded;
    done = done;
  }
    where
      k : ℕ
      k = get_or cells p 0

      at : k < length lengths
      at = omega (arith, m.size, forward.in_range p h)

      bounded : (x e : ℕ) → get_or (set lengths k o) x None ≡ Some e → e + p ≤ length cells
      bounded x e f = elim (cases_eq x k) [
        | inl same ↦ (let P : ℕ → Type 0 = λ y. get_or (set lengths k o) y None ≡ Some e in
            let lt : k < length lengths = at in low e (rw get_or-set_same at (subst P same f)))
        | inr other ↦ (let ne : x ≢ k = other in omega (arith, m.bounded x e (rw get_or-set_other at f)))
      ]

      done : (q : ℕ) → p ≤ q → q < length cells → IsDistance pairs j (get_or cells q 0) (get_or (set lengths k o) (get_or cells q 0) None)
      done q l w = elim (cases_eq (get_or cells q 0) k) [
        | inl same ↦ (let P : ℕ → Type 0 = λ x. IsDistance pairs j x (get_or (set lengths k o) x None) in
            subst P (sym same) (let lt : k < length lengths = at in rw get_or-set_same dist))
        | inr other ↦ elim (cases_eq q p) [
          | inl last ↦ absurd (other (ap (λ x. get_or cells x 0) last))
          | inr more ↦ (let ne : get_or cells q 0 ≢ k = other in rw get_or-set_other (m.done q (omega arith) w))
        ]
      ]

  pub put_target : (p : ℕ) (lengths : List (Option ℕ)) → p < length cells → IsMeasured count pairs j cells (p + 1) lengths → get_or cells p 0 ≡ j →
      IsMeasured count pairs j cells p (set lengths (get_or cells p 0) (Some 0))
  put_target p lengths h m e =
      put p lengths (Some 0) h m (([], (e, refl)), λ cs walk. omega arith) (λ x f. omega (arith, some_is f))

  pub put_nearest : (p : ℕ) (lengths : List (Option ℕ)) (o : Option ℕ) → p < length cells → IsMeasured count pairs j cells (p + 1) lengths → get_or cells p 0 ≢ j →
      IsNearest pairs lengths (get_or starts (get_or cells p 0) 0) (get_or starts (get_or cells p 0 + 1) 0) o →
      IsMeasured count pairs j cells p (set lengths (get_or cells p 0) o)
  put_nearest p lengths o h m other near =
      put p lengths o h m (distance_of p lengths o h m other near) (low o near)
    where
      low : (o : Option ℕ) → IsNearest pairs lengths (get_or starts (get_or cells p 0) 0) (get_or starts (get_or cells p 0 + 1) 0) o →
          (e : ℕ) → o ≡ Some e → e + p ≤ length cells
      low None near e f = absurd (none_is_not f)
      low (Some d) near e f = omega (arith, some_is f, m.bounded (pair_at pairs near.1.0).second near.1.1.0 near.1.1.1.2, near.1.1.1.3)

  pub measured_ends : (lengths : List (Option ℕ)) → IsMeasured count pairs j cells 0 lengths → AreDistances count pairs j lengths
  measured_ends lengths m = record {
    size = m.size;
    each = λ k h. (let p = forward.whole k h in
        let P : ℕ → Type 0 = λ x. IsDistance pairs j x (get_or lengths x None) in
        subst P p.1.1 (m.done p.0 (omega arith) p.1.0));
  }
