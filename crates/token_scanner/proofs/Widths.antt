-- Widths of characters.
use Rattle.std.proofs.Common.{ℕ, List, [], ◌∷◌, ◌++◌, ◌≡◌, ◌≤◌, ◌+◌, length, arith, zero, suc, take, drop, refl}
use Rattle.std.proofs.lemmas.Str.{len_utf8_bounds}
use Rattle.std.specs.Char.{len_utf8}
use Rattle.token_scanner.specs.Widths.{width}

pub width-append : (a b : List ℕ) → width (a ++ b) ≡ width a + width b
width-append [] b = omega arith
width-append (c ∷ a) b = let e : width (a ++ b) ≡ width a + width b = width-append a b in omega (arith, e)

pub width_push : (a : List ℕ) (c : ℕ) → width (a ++ c ∷ []) ≡ width a + len_utf8 c
width_push a c = let e : width (a ++ c ∷ []) ≡ width a + width (c ∷ []) = width-append a (c ∷ []) in omega (arith, e)

pub width_split : (n : ℕ) (a : List ℕ) → width (take n a) + width (drop n a) ≡ width a
width_split zero a = omega arith
width_split (suc n) [] = refl
width_split (suc n) (c ∷ a) = let e : width (take n a) + width (drop n a) ≡ width a = width_split n a in omega (arith, e)

pub length_width : (a : List ℕ) → length a ≤ width a
length_width [] = omega arith
length_width (c ∷ a) = omega (arith, length_width a, (len_utf8_bounds c).0)

pub width_take : (n : ℕ) (a : List ℕ) → width (take n a) ≤ width a
width_take n a = let e = width_split n a in omega (arith, e)

pub length_take_width : (n : ℕ) (a : List ℕ) → length (take n a) ≤ width a
length_take_width n a = omega (arith, length_width (take n a), width_take n a)

pub width_mono : (n m : ℕ) (text : List ℕ) → n ≤ m → width (take n text) ≤ width (take m text)
width_mono zero m text h = omega arith
width_mono (suc n) zero text h = absurd (omega (arith, h))
width_mono (suc n) (suc m) [] h = omega arith
width_mono (suc n) (suc m) (c ∷ cs) h = let e : width (take n cs) ≤ width (take m cs) = width_mono n m cs (omega (arith, h)) in omega (arith, e)
