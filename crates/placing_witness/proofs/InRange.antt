-- Each point of the list of all points is in range.
use Rattle.std.proofs.Common.{zero, suc, ◌≡◌, ℕ, List, [], ◌∷◌, ◌+◌, ◌*◌, ◌<◌, length, length-append, ap, get_or, arith, inl, inr, refl, subst}
use Rattle.order_laws.specs.declared.Point.{Point}
use Rattle.order_laws.specs.declared.Point.TheVariants.{Date}
use Rattle.order_laws.specs.Tables.{IsPoint, boundaries, date_points, all_points}
use Rattle.order_laws.proofs.Built.{Among}
use Rattle.order_laws.proofs.Members.{in_range, length-boundaries}

among_at : (xs : List Point) (n : ℕ) (d : Point) → n < length xs → Among (get_or xs n d) xs
among_at [] n d h = absurd (omega arith)
among_at (x ∷ xs) zero d h = inl refl
among_at (x ∷ xs) (suc n) d h = inr (among_at xs n d (omega arith))

pub point_in_range : (points : List Point) (extents dates n : ℕ) (d : Point) → points ≡ all_points extents dates → n < length points → IsPoint extents dates (get_or points n d)
point_in_range points extents dates n d same h =
    let P : List Point → Type 0 = λ xs. Among (get_or points n d) xs in
    in_range extents dates (get_or points n d) (subst P same (among_at points n d h))

pub length_dates : (dates : ℕ) → length (date_points dates) ≡ dates
length_dates zero = refl
length_dates (suc dates) = omega (arith, length-append (date_points dates) (Date dates ∷ []), length_dates dates)

pub length_points : (points : List Point) (extents dates : ℕ) → points ≡ all_points extents dates → length points ≡ 2 * extents + dates
length_points points extents dates same =
    omega (arith, ap length same, length-append (boundaries extents) (date_points dates), length-boundaries extents, length_dates dates)
