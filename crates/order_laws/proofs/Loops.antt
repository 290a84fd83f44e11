-- The first point that has a cycle.
use Rattle.std.proofs.Common.{zero, suc, ◌≡◌, ℕ, List, [], ◌∷◌, ◌++◌, Bool, true, false, ◌+◌, ◌*◌, ◌<◌, ◌≤◌, length, arith, inl, inr, refl, subst, ap, sym, ◌∙◌, length-append}
use Rattle.std.specs.Prelude.{◌⊎◌, Option, Some, None}
use Rattle.std.proofs.lemmas.Bool.{cases_Bool, cases_lt, true≢false}
use Rattle.std.proofs.lemmas.Option.{none-some}
use Rattle.order_laws.specs.declared.Order.{Order}
use Rattle.order_laws.specs.declared.Point.{Point}
use Rattle.order_laws.specs.declared.Point.TheVariants.{Start, End, Date}
use Rattle.order_laws.specs.Chains.{order_at, IsWalk, Follows, HasCycle}
use Rattle.order_laws.specs.Closure.{reach_between, first_where, first_strict_loop, has_strict_loop}
use Rattle.order_laws.specs.FirstChains.{IsFirstLoop}
use Rattle.order_laws.specs.Points.{number_of}
use Rattle.order_laws.specs.Tables.{is_strict, IsPoint, boundaries, date_points, all_points}
use Rattle.order_laws.proofs.Built.{Among}
use Rattle.order_laws.proofs.Members.{in_range, all_among, length-boundaries}
use Rattle.order_laws.proofs.Closure.{entry_follows, follows_entry}

-- the numbers of the points go up by one, from n on
abbrev IsRun : ℕ → ℕ → List Point → Type 0
IsRun extents n [] = Unit {0}
IsRun extents n (x ∷ xs) = (number_of extents x ≡ n) × IsRun extents (n + 1) xs

run_append : (extents n : ℕ) (xs ys : List Point) → IsRun extents n xs → IsRun extents (n + length xs) ys → IsRun extents n (xs ++ ys)
run_append extents n [] ys r s = let P : ℕ → Type 0 = λ m. IsRun extents m ys in subst P (omega arith) s
run_append extents n (x ∷ xs) ys r s =
    (r.0, run_append extents (n + 1) xs ys r.1 (let P : ℕ → Type 0 = λ m. IsRun extents m ys in subst P (omega arith) s))

run_boundaries : (extents e : ℕ) → IsRun extents 0 (boundaries e)
run_boundaries extents zero = tt
run_boundaries extents (suc e) =
    run_append extents 0 (boundaries e) (Start e ∷ End e ∷ []) (run_boundaries extents e)
    (omega (arith, length-boundaries e), (omega (arith, length-boundaries e), tt))

length_dates : (d : ℕ) → length (date_points d) ≡ d
length_dates zero = refl
length_dates (suc d) = omega (arith, length-append (date_points d) (Date d ∷ []), length_dates d)

run_dates : (extents d : ℕ) → IsRun extents (2 * extents) (date_points d)
run_dates extents zero = tt
run_dates extents (suc d) =
    run_append extents (2 * extents) (date_points d) (Date d ∷ []) (run_dates extents d) (omega (arith, length_dates d), tt)

run_all : (extents dates : ℕ) → IsRun extents 0 (all_points extents dates)
run_all extents dates =
    run_append extents 0 (boundaries extents) (date_points dates) (run_boundaries extents extents)
    (let P : ℕ → Type 0 = λ m. IsRun extents m (date_points dates) in subst P (omega (arith, length-boundaries extents)) (run_dates extents dates))

run_from : (extents n : ℕ) (xs : List Point) (y : Point) → IsRun extents n xs → Among y xs → n ≤ number_of extents y
run_from extents n [] y r a = absurd a
run_from extents n (x ∷ xs) y r (inl e) = omega (arith, r.0, ap (number_of extents) e)
run_from extents n (x ∷ xs) y r (inr a) = omega (arith, run_from extents (n + 1) xs y r.1 a)

some_is : (x y : Point) → Some x ≡ Some y → x ≡ y
some_is x y e = ap {A = Option Point} (λ o. elim o as (λ _. Point) [ None ↦ x | Some z ↦ z ]) e

record IsFirst (test : Point → Bool) (extents : ℕ) (xs : List Point) (x : Point) : Type 0 where
  among : Among x xs
  passes : test x ≡ true
  first : (y : Point) → Among y xs → number_of extents y < number_of extents x → test y ≡ false

first_found : (test : Point → Bool) (extents n : ℕ) (xs : List Point) (x : Point) → IsRun extents n xs → first_where test xs ≡ Some x → IsFirst test extents xs x
first_found test extents n [] x r e = absurd (none-some x e)
first_found test extents n (z ∷ xs) x r e =
    elim (cases_Bool (test z)) [
      | inl k ↦
          (let same : z ≡ x = some_is z x (rw k at e) in
          let P : Point → Type 0 = λ v. test v ≡ true in
          record {
            among = inl (sym same);
            passes = subst P same k;
            first = λ y a l. absurd (omega (arith, r.0, ap (number_of extents) same, run_from extents n (z ∷ xs) y r a));
          })
      | inr k ↦
          (let rest : IsFirst test extents xs x = first_found test extents (n + 1) xs x r.1 (rw k at e) in
          let P : Point → Type 0 = λ v. test v ≡ false in
          record {
            among = inr rest.among;
            passes = rest.passes;
            first = λ y a l. elim a [ inl same ↦ subst P (sym same) k | inr later ↦ rest.first y later l ];
          })
    ]

none_found : (test : Point → Bool) (xs : List Point) → first_where test xs ≡ None → (y : Point) → Among y xs → test y ≡ false
none_found test [] e y a = absurd a
none_found test (z ∷ xs) e y a =
    elim (cases_Bool (test z)) [
      | inl k ↦ absurd (none-some z (sym (rw k at e)))
      | inr k ↦
          (let P : Point → Type 0 = λ v. test v ≡ false in
          elim a [ inl same ↦ subst P (sym same) k | inr later ↦ none_found test xs (rw k at e) y later ])
    ]

-- in range each point has a number of its own
number_injective : (extents dates : ℕ) (x y : Point) → IsPoint extents dates x → IsPoint extents dates y → number_of extents x ≡ number_of extents y → x ≡ y
number_injective extents dates (Start j) (Start k) h l e = ap Start (omega arith)
number_injective extents dates (Start j) (End k) h l e = absurd (omega arith)
number_injective extents dates (Start j) (Date k) h l e = absurd (omega arith)
number_injective extents dates (End j) (Start k) h l e = absurd (omega arith)
number_injective extents dates (End j) (End k) h l e = ap End (omega arith)
number_injective extents dates (End j) (Date k) h l e = absurd (omega arith)
number_injective extents dates (Date j) (Start k) h l e = absurd (omega arith)
number_injective extents dates (Date j) (End k) h l e = absurd (omega arith)
number_injective extents dates (Date j) (Date k) h l e = ap Date (omega arith)

loops : List Order → Point → Bool
loops orders x = is_strict (reach_between orders x x)

not_strict : (orders : List Order) (x : Point) → is_strict (reach_between orders x x) ≡ false → Follows orders x x true → ⊥
not_strict orders x h f = true≢false (sym (follows_entry orders x x true f) ∙ h)

cases_option : (o : Option Point) → (o ≡ None) ⊎ ((x : Point) × (o ≡ Some x))
cases_option None = inl refl
cases_option (Some x) = inr (x, refl)

pub loop_is_first : (orders : List Order) (extents dates : ℕ) (x : Point) → first_strict_loop orders extents dates ≡ Some x → IsFirstLoop orders extents dates x
loop_is_first orders extents dates x e =
    let first : IsFirst (λ y. is_strict (reach_between orders y y)) extents (all_points extents dates) x =
    first_found (λ y. is_strict (reach_between orders y y)) extents 0 (all_points extents dates) x (run_all extents dates) e in
    record {
      in_range = in_range extents dates x first.among;
      loops = entry_follows orders x x true first.passes;
      first = λ y in_y l. not_strict orders y (first.first y (all_among extents dates y in_y) l);
    }

pub no_loop : (orders : List Order) (extents dates : ℕ) → first_strict_loop orders extents dates ≡ None → (x : Point) → IsPoint extents dates x → Follows orders x x true → ⊥
no_loop orders extents dates e x in_x =
    not_strict orders x (none_found (λ y. is_strict (reach_between orders y y)) (all_points extents dates) e x (all_among extents dates x in_x))

pub first_is_loop : (orders : List Order) (extents dates : ℕ) (x : Point) → IsFirstLoop orders extents dates x → first_strict_loop orders extents dates ≡ Some x
first_is_loop orders extents dates x first =
    elim (cases_option (first_strict_loop orders extents dates)) [
      | inl e ↦ absurd (no_loop orders extents dates e x first.in_range first.loops)
      | inr found ↦
          (let y : Point = found.0 in
          let other : IsFirstLoop orders extents dates y = loop_is_first orders extents dates y found.1 in
          found.1 ∙ ap Some (number_injective extents dates y x other.in_range first.in_range
          (elim (cases_lt (number_of extents y) (number_of extents x)) [
            | inl less ↦ absurd (first.first y other.in_range less other.loops)
            | inr most ↦ elim (cases_lt (number_of extents x) (number_of extents y)) [
              | inl less ↦ absurd (other.first x first.in_range less first.loops)
              | inr least ↦ omega arith
            ]
          ])))
    ]

-- a point with a cycle is in range
loop_in_range : (orders : List Order) (extents dates : ℕ) → ((n : ℕ) → n < length orders → IsPoint extents dates (order_at orders n).low) →
    (x : Point) → Follows orders x x true → IsPoint extents dates x
loop_in_range orders extents dates low x f =
    let go : (ns : List ℕ) → 0 < length ns → IsWalk orders x x ns → IsPoint extents dates x =
    λ ns. elim ns as (λ ms. 0 < length ms → IsWalk orders x x ms → IsPoint extents dates x) [
      | [] ↦ λ h w. absurd (omega arith)
      | m ∷ ms ↦ λ h w. (let P : Point → Type 0 = IsPoint extents dates in subst P w.1 (low m w.0))
    ] in
    go f.0 f.1.0.0 f.1.0.1

pub cycle_decided : (orders : List Order) (extents dates : ℕ) → ((n : ℕ) → n < length orders → IsPoint extents dates (order_at orders n).low) →
    (HasCycle orders → has_strict_loop orders extents dates ≡ true) × (has_strict_loop orders extents dates ≡ true → HasCycle orders)
cycle_decided orders extents dates low =
    let there : Option Point → Bool = λ o. elim o as (λ _. Bool) [ None ↦ false | Some _ ↦ true ] in
    elim (cases_option (first_strict_loop orders extents dates)) [
      | inl e ↦ (
        λ cycle. absurd (no_loop orders extents dates e cycle.0 (loop_in_range orders extents dates low cycle.0 cycle.1) cycle.1),
        λ h. absurd (true≢false (sym h ∙ ap there e)),
      )
      | inr found ↦ (
        λ cycle. ap there found.1,
        λ h. (found.0, (loop_is_first orders extents dates found.0 found.1).loops),
      )
    ]

pub cycle_or_none : (orders : List Order) (extents dates : ℕ) → ((n : ℕ) → n < length orders → IsPoint extents dates (order_at orders n).low) →
    HasCycle orders ⊎ (HasCycle orders → ⊥)
cycle_or_none orders extents dates low =
    elim (cases_Bool (has_strict_loop orders extents dates)) [
      | inl e ↦ inl ((cycle_decided orders extents dates low).1 e)
      | inr e ↦ inr (λ cycle. true≢false (sym ((cycle_decided orders extents dates low).0 cycle) ∙ e))
    ]
