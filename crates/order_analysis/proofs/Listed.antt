-- Numbers of extents in a list.
use Rattle.std.proofs.Common.{◌≡◌, ℕ, ◌<◌, List, Some, None, slice_get, sym, subst}
use Rattle.std.specs.Prelude.{Option, IfSome}
use Rattle.std.proofs.lemmas.Option.{slice_get_within, get_or_from_slice_get}
use Rattle.order_core.specs.Sets.{AreExtents}

extent_in : (extents : ℕ) (periods : List ℕ) (i k : ℕ) → AreExtents extents periods → Some k ≡ slice_get periods i → k < extents
extent_in extents periods i k all h =
    subst (λ (n : ℕ). n < extents) (get_or_from_slice_get periods i k 0 (sym h)) (all i 0 (slice_get_within periods i k (sym h)))

-- what a look-up gives is the number of an extent
pub found_in : (extents : ℕ) (periods : List ℕ) (i : ℕ) (r : Option ℕ) → AreExtents extents periods → r ≡ slice_get periods i → IfSome r (λ k. k < extents)
found_in extents periods i None all h = tt
found_in extents periods i (Some k) all h = extent_in extents periods i k all h
