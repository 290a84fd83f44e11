-- The first of the shortest walks, read from the lengths.
use Rattle.std.proofs.Common.{arith, ◌≡◌, ◌≢◌, ◌<◌, ◌≤◌, ◌+◌, ◌⊎◌, inl, inr, ℕ, Option, Some, None, List, [], ◌∷◌, ◌++◌, length, get_or, refl, sym, ap, subst, ◌∙◌, length-append, append_assoc}
use Rattle.std.proofs.lemmas.Bool.{cases_eq, cases_lt}
use Rattle.std.proofs.lemmas.List.{length_push}
use Rattle.order_laws.specs.Lists.{IsAtMost, IsLexicographicallyLess}
use Rattle.harris_matrix.specs.declared.cells.CellPair.{CellPair}
use Rattle.harris_matrix.specs.Walks.{pair_at, IsWalk, IsFirstWalk, AreStarts, IsForward, IsDistance, AreDistances, length_at, IsFirstStep, IsShortestWalk}

some_is : {a b : ℕ} → Some a ≡ Some b → a ≡ b
some_is e = cc

none_is_not : {a : ℕ} → None ≡ Some a → ⊥
none_is_not e = cc

nothing_after : (xs : List ℕ) → xs ++ [] ≡ xs
nothing_after [] = refl
nothing_after (x ∷ xs) = ap (λ ys. x ∷ ys) (nothing_after xs)

less_behind : (ws : List ℕ) (c b : ℕ) (xs ys : List ℕ) → c < b → IsLexicographicallyLess (ws ++ c ∷ xs) (ws ++ b ∷ ys)
less_behind [] c b xs ys h = inl h
less_behind (w ∷ ws) c b xs ys h = inr (refl, less_behind ws c b xs ys h)

pub walks_join : (pairs : List CellPair) (i k j : ℕ) (xs ys : List ℕ) → IsWalk pairs i k xs → IsWalk pairs k j ys → IsWalk pairs i j (xs ++ ys)
walks_join pairs i k j [] ys w v = (let P : ℕ → Type 0 = λ n. IsWalk pairs n j ys in subst P (sym w) v)
walks_join pairs i k j (x ∷ xs) ys w v = (w.0, w.1, walks_join pairs (pair_at pairs x).second k j xs ys w.2 v)

-- a walk agrees with what is read so far, or all that goes on from there is less
abbrev Agrees : List CellPair → ℕ → ℕ → List ℕ → List ℕ → Type 0
Agrees pairs at j ws ds =
    ((rest : List ℕ) × ((ds ≡ ws ++ rest) × IsWalk pairs at j rest)) ⊎ ((rest : List ℕ) → IsLexicographicallyLess (ws ++ rest) ds)

-- what is read once `left` pairs of d are still to come
pub record IsRead (count : ℕ) (pairs : List CellPair) (lengths : List (Option ℕ)) (i d at left : ℕ) (ws : List ℕ) : Type 0 where
  pub in_range : at < count
  pub known : get_or lengths at None ≡ Some left
  pub size : length ws + left ≡ d
  pub walk : IsWalk pairs i at ws
  pub first : (j : ℕ) → AreDistances count pairs j lengths → (ds : List ℕ) → IsWalk pairs i j ds → length ds ≡ d → Agrees pairs at j ws ds

pub read_begins : (count : ℕ) (pairs : List CellPair) (lengths : List (Option ℕ)) (i d : ℕ) → i < count → get_or lengths i None ≡ Some d →
    IsRead count pairs lengths i d i d []
read_begins count pairs lengths i d h e = record {
  in_range = h;
  known = e;
  size = omega arith;
  walk = refl;
  first = λ j dist ds walk size. inl (ds, (refl, walk));
}

module _ (count : ℕ) (pairs : List CellPair) (starts : List ℕ) (are_starts : AreStarts count pairs starts) (lengths : List (Option ℕ)) where
  -- the length from a cell, where a walk of so many pairs leads on
  exact : (j k left : ℕ) → AreDistances count pairs j lengths → k < count → (cs : List ℕ) → IsWalk pairs k j cs → length cs ≡ left →
      (o : Option ℕ) → get_or lengths k None ≡ o → ((e : ℕ) → o ≡ Some e → left ≤ e) → o ≡ Some left
  exact j k left dist h cs walk size None e low = (let P : Option ℕ → Type 0 = IsDistance pairs j k in absurd (subst P e (dist.each k h) cs walk))
  exact j k left dist h cs walk size (Some d) e low =
      let P : Option ℕ → Type 0 = IsDistance pairs j k in
      let least : d ≤ length cs = (subst P e (dist.each k h)).1 cs walk in
      let more : left ≤ d = low d refl in
      let same : d ≡ left = omega (arith, least, more, size) in
      ap (λ x. Some x) same

  -- the first pair of a shortest walk from a cell
  step_known : (j at left : ℕ) → AreDistances count pairs j lengths → at < count → get_or lengths at None ≡ Some (left + 1) → (b : ℕ) (rest : List ℕ) →
      IsWalk pairs at j (b ∷ rest) → length rest ≡ left → length_at pairs lengths b ≡ Some left
  step_known j at left dist h known b rest walk size =
      exact j (pair_at pairs b).second left dist (are_starts.whole b walk.0).1 rest walk.2 size (length_at pairs lengths b) refl low
    where
      low : (e : ℕ) → length_at pairs lengths b ≡ Some e → left ≤ e
      low e f = (let P : Option ℕ → Type 0 = IsDistance pairs j (pair_at pairs b).second in
          let Q : Option ℕ → Type 0 = IsDistance pairs j at in
          let on = subst P f (dist.each (pair_at pairs b).second (are_starts.whole b walk.0).1) in
          omega (arith, (subst Q known (dist.each at h)).1 (b ∷ on.0.0) (walk.0, walk.1, on.0.1.0), on.0.1.1))

  in_own_range : (at b : ℕ) → b < length pairs → (pair_at pairs b).first ≡ at → (get_or starts at 0 ≤ b) × (b < get_or starts (at + 1) 0)
  in_own_range at b l e = (let w = are_starts.whole b l in
      let P : ℕ → Type 0 = λ x. (get_or starts x 0 ≤ b) × (b < get_or starts (x + 1) 0) in
      subst P e (w.2, w.3))

  pub read_more : (i d at left : ℕ) (ws : List ℕ) (c : ℕ) → IsRead count pairs lengths i d at (left + 1) ws →
      IsFirstStep pairs lengths (get_or starts at 0) (get_or starts (at + 1) 0) left (Some c) →
      IsRead count pairs lengths i d (pair_at pairs c).second left (ws ++ c ∷ [])
  read_more i d at left ws c m step = record {
    in_range = (are_starts.whole c own.0).1;
    known = step.2;
    size = omega (arith, length_push ws c, m.size);
    walk = walks_join pairs i at (pair_at pairs c).second ws (c ∷ []) m.walk (own.0, own.1, refl);
    first = first;
  }
    where
      own : (c < length pairs) × ((pair_at pairs c).first ≡ at)
      own = are_starts.own at c m.in_range step.0 step.1

      shifted : (rest : List ℕ) → (ws ++ c ∷ []) ++ rest ≡ ws ++ c ∷ rest
      shifted rest = append_assoc ws (c ∷ []) rest

      first : (j : ℕ) → AreDistances count pairs j lengths → (ds : List ℕ) → IsWalk pairs i j ds → length ds ≡ d →
          Agrees pairs (pair_at pairs c).second j (ws ++ c ∷ []) ds
      first j dist ds walk size = go (m.first j dist ds walk size)
        where
          on : (b : ℕ) (rest : List ℕ) → ds ≡ ws ++ b ∷ rest → IsWalk pairs at j (b ∷ rest) → Agrees pairs (pair_at pairs c).second j (ws ++ c ∷ []) ds
          on b rest e walk' =
              let long : length rest ≡ left = omega (arith, size, ap length e, length-append ws (b ∷ rest), m.size) in
              let r = in_own_range at b walk'.0 walk'.1 in
              elim (cases_lt b c) [
                | inl less ↦ absurd (step.3 b r.0 less (step_known j at left dist m.in_range m.known b rest walk' long))
                | inr more ↦ elim (cases_eq c b) [
                  | inl same ↦ inl (
                    rest,
                    (
                      e ∙ ap (λ x. ws ++ x ∷ rest) (sym same) ∙ sym (shifted rest),
                      (let P : ℕ → Type 0 = λ x. IsWalk pairs (pair_at pairs x).second j rest in subst P (sym same) walk'.2),
                    ),
                  )
                  | inr other ↦ inr (λ rest'. (let P : List ℕ → Type 0 = λ xs. IsLexicographicallyLess xs ds in
                      let Q : List ℕ → Type 0 = λ xs. IsLexicographicallyLess (ws ++ c ∷ rest') xs in
                      subst P (sym (shifted rest')) (subst Q (sym e) (less_behind ws c b rest' rest (omega (arith, other))))))
                ]
              ]

          go : Agrees pairs at j ws ds → Agrees pairs (pair_at pairs c).second j (ws ++ c ∷ []) ds
          go (inr less) = inr (λ rest. (let P : List ℕ → Type 0 = λ xs. IsLexicographicallyLess xs ds in subst P (sym (shifted rest)) (less (c ∷ rest))))
          go (inl ([], agree)) = absurd (omega (arith, size, ap length agree.0, length-append ws [], m.size))
          go (inl (b ∷ rest, agree)) = on b rest agree.0 agree.1

  -- a pair that leads on is always found
  pub step_found : (i d at left j : ℕ) (ws : List ℕ) → AreDistances count pairs j lengths → IsRead count pairs lengths i d at (left + 1) ws →
      IsFirstStep pairs lengths (get_or starts at 0) (get_or starts (at + 1) 0) left None → ⊥
  step_found i d at left j ws dist m none =
      (let P : Option ℕ → Type 0 = IsDistance pairs j at in
      let on = subst P m.known (dist.each at m.in_range) in
      go on.0.0 on.0.1.0 on.0.1.1)
    where
      go : (cs : List ℕ) → IsWalk pairs at j cs → length cs ≡ left + 1 → ⊥
      go [] walk size = omega arith
      go (b ∷ rest) walk size = (let r = in_own_range at b walk.0 walk.1 in
          none b r.0 r.1 (step_known j at left dist m.in_range m.known b rest walk (omega arith)))

  pub read_ends : (i d at j : ℕ) (ws : List ℕ) → AreDistances count pairs j lengths → i < count → get_or lengths i None ≡ Some d →
      IsRead count pairs lengths i d at 0 ws → IsShortestWalk pairs i j d ws
  read_ends i d at j ws dist h known m = record {
    walk = (let P : ℕ → Type 0 = λ x. IsWalk pairs i x ws in subst P arrived m.walk);
    size = omega (arith, m.size);
    first = first;
  }
    where
      empty : (cs : List ℕ) → IsWalk pairs at j cs → length cs ≡ 0 → at ≡ j
      empty [] walk size = walk
      empty (c ∷ cs) walk size = absurd (omega arith)

      arrived : at ≡ j
      arrived = (let P : Option ℕ → Type 0 = IsDistance pairs j at in
          let on = subst P m.known (dist.each at m.in_range) in
          empty on.0.0 on.0.1.0 on.0.1.1)

      same_size : (ds : List ℕ) → length ds ≡ d → Agrees pairs at j ws ds → IsAtMost ws ds
      same_size ds size (inl ([], agree)) = inl (sym (agree.0 ∙ nothing_after ws))
      same_size ds size (inl (b ∷ rest, agree)) = absurd (omega (arith, size, ap length agree.0, length-append ws (b ∷ rest), m.size))
      same_size ds size (inr less) = inr (inr (omega (arith, size, m.size), (let P : List ℕ → Type 0 = λ xs. IsLexicographicallyLess xs ds in subst P (nothing_after ws) (less []))))

      first : (ds : List ℕ) → IsWalk pairs i j ds → IsAtMost ws ds
      first ds walk =
          let P : Option ℕ → Type 0 = IsDistance pairs j i in
          let least : d ≤ length ds = (subst P known (dist.each i h)).1 ds walk in
          elim (cases_eq (length ds) d) [
            | inl size ↦ same_size ds size (m.first j dist ds walk size)
            | inr other ↦ inr (inl (omega (arith, m.size, least, other)))
          ]

-- a walk of at least one pair leads ahead
pub walk_ahead : (count : ℕ) (pairs : List CellPair) (starts cells : List ℕ) → AreStarts count pairs starts → IsForward count pairs cells → (j : ℕ) (ds : List ℕ) →
    0 < length ds → (p q : ℕ) → p < length cells → q < length cells → get_or cells q 0 ≡ j → IsWalk pairs (get_or cells p 0) j ds → p < q
walk_ahead count pairs starts cells are_starts forward j [] some p q h l e walk = absurd (omega arith)
walk_ahead count pairs starts cells are_starts forward j (c ∷ []) some p q h l e walk = forward.ahead p q c h l walk.0 walk.1 (walk.2 ∙ sym e)
walk_ahead count pairs starts cells are_starts forward j (c ∷ (b ∷ cs)) some p q h l e walk =
    let m = forward.whole (pair_at pairs c).second (are_starts.whole c walk.0).1 in
    let P : ℕ → Type 0 = λ x. IsWalk pairs x j (b ∷ cs) in
    let rest = walk_ahead count pairs starts cells are_starts forward j (b ∷ cs) (omega arith) m.0 q m.1.0 l e (subst P (sym m.1.1) walk.2) in
    let here = forward.ahead p m.0 c h m.1.0 walk.0 walk.1 (sym m.1.1) in
    omega (arith, rest, here)

pub no_round : (count : ℕ) (pairs : List CellPair) (starts cells : List ℕ) → AreStarts count pairs starts → IsForward count pairs cells →
    (i : ℕ) → i < count → (ds : List ℕ) → 0 < length ds → ¬ IsWalk pairs i i ds
no_round count pairs starts cells are_starts forward i h ds some walk =
    let p = forward.whole i h in
    let P : ℕ → Type 0 = λ x. IsWalk pairs x i ds in
    let less = walk_ahead count pairs starts cells are_starts forward i ds some p.0 p.0 p.1.0 p.1.0 p.1.1 (subst P (sym p.1.1) walk) in
    omega (arith, less)

-- a walk of at least one pair leads between cells
pub walk_in_range : (count : ℕ) (pairs : List CellPair) (starts : List ℕ) → AreStarts count pairs starts → (i j : ℕ) (ds : List ℕ) → 0 < length ds → IsWalk pairs i j ds →
    (i < count) × (j < count)
walk_in_range count pairs starts are_starts i j [] some walk = absurd (omega arith)
walk_in_range count pairs starts are_starts i j (c ∷ []) some walk =
    let w = are_starts.whole c walk.0 in
    (omega (arith, w.0, walk.1), omega (arith, w.1, walk.2))
walk_in_range count pairs starts are_starts i j (c ∷ (b ∷ cs)) some walk =
    let w = are_starts.whole c walk.0 in
    (omega (arith, w.0, walk.1), (walk_in_range count pairs starts are_starts (pair_at pairs c).second j (b ∷ cs) (omega arith) walk.2).1)

pub first_of_shortest : (pairs : List CellPair) (i j d : ℕ) (cs : List ℕ) → i ≢ j → IsShortestWalk pairs i j d cs → IsFirstWalk pairs i j cs
first_of_shortest pairs i j d [] other m = absurd (other m.walk)
first_of_shortest pairs i j d (c ∷ cs) other m = record { some = omega arith; walk = m.walk; first = λ ds some walk. m.first ds walk }
