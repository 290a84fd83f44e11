-- The list of all points has each point in range, and no other.
use Rattle.std.proofs.Common.{zero, suc, ◌≡◌, ℕ, List, [], ◌∷◌, ◌++◌, ◌+◌, ◌*◌, ◌<◌, length, get_or, arith, inl, inr, refl, subst, ap, sym, ◌∙◌, length-append}
use Rattle.std.specs.Prelude.{◌⊎◌}
use Rattle.std.proofs.lemmas.Bool.{cases_eq}
use Rattle.std.proofs.lemmas.List.{get_or_append_left, get_or-append_right}
use Rattle.order_laws.specs.declared.Point.{Point}
use Rattle.order_laws.specs.declared.Point.TheVariants.{Start, End, Date}
use Rattle.order_laws.specs.Tables.{IsPoint, boundaries, date_points, all_points}
use Rattle.order_laws.proofs.Built.{Among}

pub among_left : (x : Point) (xs ys : List Point) → Among x xs → Among x (xs ++ ys)
among_left x [] ys a = absurd a
among_left x (z ∷ xs) ys (inl e) = inl e
among_left x (z ∷ xs) ys (inr a) = inr (among_left x xs ys a)

pub among_right : (x : Point) (xs ys : List Point) → Among x ys → Among x (xs ++ ys)
among_right x [] ys a = a
among_right x (z ∷ xs) ys a = inr (among_right x xs ys a)

pub among_split : (x : Point) (xs ys : List Point) → Among x (xs ++ ys) → Among x xs ⊎ Among x ys
among_split x [] ys a = inr a
among_split x (z ∷ xs) ys (inl e) = inl (inl e)
among_split x (z ∷ xs) ys (inr a) =
    elim (among_split x xs ys a) [ inl b ↦ inl (inr b) | inr b ↦ inr b ]

IsPoint-wider : (e d : ℕ) (x : Point) → IsPoint e d x → IsPoint (suc e) d x
IsPoint-wider e d (Start k) h = omega arith
IsPoint-wider e d (End k) h = omega arith
IsPoint-wider e d (Date k) h = h

IsPoint-later : (e d : ℕ) (x : Point) → IsPoint e d x → IsPoint e (suc d) x
IsPoint-later e d (Start k) h = h
IsPoint-later e d (End k) h = h
IsPoint-later e d (Date k) h = omega arith

along : (e d : ℕ) (x y : Point) → x ≡ y → IsPoint e d y → IsPoint e d x
along e d x y same h = let P : Point → Type 0 = IsPoint e d in subst P (sym same) h

boundary_in_range : (e d : ℕ) (x : Point) → Among x (boundaries e) → IsPoint e d x
boundary_in_range zero d x a = absurd a
boundary_in_range (suc e) d x a =
    elim (among_split x (boundaries e) (Start e ∷ End e ∷ []) a) [
      | inl b ↦ IsPoint-wider e d x (boundary_in_range e d x b)
      | inr (inl same) ↦ along (suc e) d x (Start e) same (omega arith)
      | inr (inr (inl same)) ↦ along (suc e) d x (End e) same (omega arith)
      | inr (inr (inr no_more)) ↦ absurd no_more
    ]

date_in_range : (e d : ℕ) (x : Point) → Among x (date_points d) → IsPoint e d x
date_in_range e zero x a = absurd a
date_in_range e (suc d) x a =
    elim (among_split x (date_points d) (Date d ∷ []) a) [
      | inl b ↦ IsPoint-later e d x (date_in_range e d x b)
      | inr (inl same) ↦ along e (suc d) x (Date d) same (omega arith)
      | inr (inr no_more) ↦ absurd no_more
    ]

pub in_range : (e d : ℕ) (x : Point) → Among x (all_points e d) → IsPoint e d x
in_range e d x a =
    elim (among_split x (boundaries e) (date_points d) a) [ inl b ↦ boundary_in_range e d x b | inr b ↦ date_in_range e d x b ]

start_among : (e k : ℕ) → k < e → Among (Start k) (boundaries e)
start_among zero k h = absurd (omega arith)
start_among (suc e) k h =
    elim (cases_eq k e) [
      | inl same ↦ among_right (Start k) (boundaries e) (Start e ∷ End e ∷ []) (inl (ap Start same))
      | inr other ↦ among_left (Start k) (boundaries e) (Start e ∷ End e ∷ []) (start_among e k (omega arith))
    ]

end_among : (e k : ℕ) → k < e → Among (End k) (boundaries e)
end_among zero k h = absurd (omega arith)
end_among (suc e) k h =
    elim (cases_eq k e) [
      | inl same ↦ among_right (End k) (boundaries e) (Start e ∷ End e ∷ []) (inr (inl (ap End same)))
      | inr other ↦ among_left (End k) (boundaries e) (Start e ∷ End e ∷ []) (end_among e k (omega arith))
    ]

date_among : (d k : ℕ) → k < d → Among (Date k) (date_points d)
date_among zero k h = absurd (omega arith)
date_among (suc d) k h =
    elim (cases_eq k d) [
      | inl same ↦ among_right (Date k) (date_points d) (Date d ∷ []) (inl (ap Date same))
      | inr other ↦ among_left (Date k) (date_points d) (Date d ∷ []) (date_among d k (omega arith))
    ]

pub all_among : (e d : ℕ) (x : Point) → IsPoint e d x → Among x (all_points e d)
all_among e d (Start k) h = among_left (Start k) (boundaries e) (date_points d) (start_among e k h)
all_among e d (End k) h = among_left (End k) (boundaries e) (date_points d) (end_among e k h)
all_among e d (Date k) h = among_right (Date k) (boundaries e) (date_points d) (date_among d k h)

pub length-boundaries : (e : ℕ) → length (boundaries e) ≡ 2 * e
length-boundaries zero = refl
length-boundaries (suc e) =
    omega (arith, length-append (boundaries e) (Start e ∷ End e ∷ []), length-boundaries e)

pub boundary_start : (e k : ℕ) (d : Point) → k < e → get_or (boundaries e) (2 * k) d ≡ Start k
boundary_start zero k d h = absurd (omega arith)
boundary_start (suc e) k d h =
    elim (cases_eq k e) [
      | inl same ↦ (let P : ℕ → Type 0 = λ j. get_or (boundaries (suc e)) (2 * j) d ≡ Start j in subst P (sym same) (grind (arith, get_or-append_right (boundaries e) (Start e ∷ End e ∷ []) (2 * e) (2 * e) d (length-boundaries e))))
      | inr other ↦ get_or_append_left (boundaries e) (Start e ∷ End e ∷ []) d (2 * k) (omega (arith, length-boundaries e)) ∙ boundary_start e k d (omega arith)
    ]

pub boundary_end : (e k : ℕ) (d : Point) → k < e → get_or (boundaries e) (2 * k + 1) d ≡ End k
boundary_end zero k d h = absurd (omega arith)
boundary_end (suc e) k d h =
    elim (cases_eq k e) [
      | inl same ↦ (let P : ℕ → Type 0 = λ j. get_or (boundaries (suc e)) (2 * j + 1) d ≡ End j in subst P (sym same) (grind (arith, get_or-append_right (boundaries e) (Start e ∷ End e ∷ []) (2 * e) (2 * e + 1) d (length-boundaries e))))
      | inr other ↦ get_or_append_left (boundaries e) (Start e ∷ End e ∷ []) d (2 * k + 1) (omega (arith, length-boundaries e)) ∙ boundary_end e k d (omega arith)
    ]
