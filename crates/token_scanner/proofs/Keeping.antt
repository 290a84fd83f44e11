-- The items of what is kept: behind what is skipped, and behind a token.
use Rattle.std.proofs.Common.{ℕ, zero, suc, List, [], ◌∷◌, ◌++◌, ◌≡◌, ◌<◌, ◌≤◌, ◌+◌, ◌-◌, length, take, drop, ap, sym, ◌∙◌, arith}
use Rattle.std.specs.Char.{len_utf8}
use Rattle.token_scanner.specs.Scanners.{Scanner}
use Rattle.token_scanner.specs.declared.place.Place.{Place}
use Rattle.token_scanner.specs.declared.place.Place.TheVariants.{Between}
use Rattle.token_scanner.specs.declared.place.Gap.TheVariants as gap
use Rattle.token_scanner.specs.Gaps.{gap_at}
use Rattle.token_scanner.specs.Fronts.{token_of}
use Rattle.token_scanner.specs.Items.{items, behind, by_gap, by_front, front_items, items_of, TokenFirst, Kept}
use Rattle.token_scanner.specs.Widths.{width}

module _ {State Kind : Type 0} (syn : Scanner State Kind) where
  pub skipped : (p : Place) (n : ℕ) (xs ys : List ℕ) (at : ℕ) → n ≤ length xs → items syn p n (xs ++ ys) at ≡ items syn p 0 (drop n xs ++ ys) (at + width (take n xs))
  skipped p zero xs ys at h = ap (items syn p 0 (xs ++ ys)) (let e : at ≡ at + 0 = omega arith in e)
  skipped p (suc n) [] ys at h = absurd (omega arith)
  skipped p (suc n) (c ∷ xs) ys at h = skipped p n xs ys (at + len_utf8 c) (omega arith)
      ∙ ap (items syn p 0 (drop n xs ++ ys)) (let e : at + len_utf8 c + width (take n xs) ≡ at + (len_utf8 c + width (take n xs)) = omega arith in e)

  -- behind a token of n characters
  pub cut_items : (n : ℕ) (c : ℕ) (xs ys : List ℕ) (at : ℕ) → 0 < n → n ≤ length (c ∷ xs)
      → items syn Between (n - 1) (xs ++ ys) (at + len_utf8 c) ≡ items syn Between 0 (drop n (c ∷ xs) ++ ys) (at + width (take n (c ∷ xs)))
  cut_items zero c xs ys at a h = absurd (omega arith)
  cut_items (suc n) c xs ys at a h = let e : suc n - 1 ≡ n = omega arith in
      ap (λ k. items syn Between k (xs ++ ys) (at + len_utf8 c)) e ∙ skipped Between (suc n) (c ∷ xs) ys at h

  pub behind_is : (n : ℕ) (chars more : List ℕ) (at : ℕ) → 0 < n → n ≤ length chars
      → items syn Between 0 (drop n chars ++ more) (at + width (take n chars)) ≡ behind syn n (chars ++ more) at
  behind_is n [] more at h l = absurd (omega arith)
  behind_is n (c ∷ chars) more at h l = sym (cut_items n c chars more at h l)

  pub skip_one : (p q : Place) (c : ℕ) (xs : List ℕ) (at w n : ℕ) → gap_at syn.lines p c ≡ gap.Skip q → n ≡ len_utf8 c → items syn q 0 xs (at + (w + n)) ≡ items syn p 0 (c ∷ xs) (at + w)
  skip_one p q c xs at w n e l =
      ap (items syn q 0 xs) (let s : at + (w + n) ≡ at + w + len_utf8 c = omega (arith, l) in s)
      ∙ ap (λ g. by_gap g (λ d. items syn d 0 xs (at + w + len_utf8 c)) (by_front (token_of syn (c ∷ xs)) (c ∷ xs) (at + w) (λ m. items syn Between m xs (at + w + len_utf8 c)))) (sym e)

  -- a token begins here
  pub token_first : (k : Kept) (more : List ℕ) → TokenFirst syn k.place k.chars → 0 < length k.chars → items_of syn k more ≡ front_items syn (token_of syn (k.chars ++ more)) (k.chars ++ more) k.at
  token_first k more first some = first_of k.place k.chars more k.at first some
    where
      first_of : (p : Place) (chars more : List ℕ) (at : ℕ) → TokenFirst syn p chars → 0 < length chars → items syn p 0 (chars ++ more) at ≡ front_items syn (token_of syn (chars ++ more)) (chars ++ more) at
      first_of p [] more at first some = absurd (omega arith)
      first_of p (c ∷ chars) more at first some =
          ap (λ g. by_gap g (λ d. items syn d 0 (chars ++ more) (at + len_utf8 c)) (by_front (token_of syn (c ∷ (chars ++ more))) (c ∷ (chars ++ more)) at (λ m. items syn Between m (chars ++ more) (at + len_utf8 c)))) first
