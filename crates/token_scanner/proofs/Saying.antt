-- The items of a text are its tokens.
use Rattle.std.proofs.Common.{ℕ, zero, suc, List, [], ◌∷◌, ◌++◌, ◌≡◌, ◌<◌, ◌≤◌, ◌+◌, ◌-◌, length, take, drop, refl, ap, sym, ◌∙◌, arith, subst, length-append, append-nil}
use Rattle.std.proofs.lemmas.List.{length-take-le}
use Rattle.std.specs.Char.{len_utf8}
use Rattle.token_scanner.specs.Scanners.{Scanner}
use Rattle.token_scanner.specs.declared.front.Front.{Front}
use Rattle.token_scanner.specs.declared.front.Front.TheVariants.{Token, Nothing, Long}
use Rattle.token_scanner.specs.declared.place.Place.{Place}
use Rattle.token_scanner.specs.declared.place.Place.TheVariants.{Between}
use Rattle.token_scanner.specs.declared.place.Gap.{Gap}
use Rattle.token_scanner.specs.declared.place.Gap.TheVariants as gap
use Rattle.token_scanner.specs.Gaps.{gap_at}
use Rattle.token_scanner.specs.Fronts.{token_of, front_of}
use Rattle.token_scanner.specs.Widths.{width}
use Rattle.token_scanner.specs.Items.{items, front_items, by_front, by_gap}
use Rattle.token_scanner.specs.Items.Items.{Item}
use Rattle.token_scanner.specs.Texts.{IsToken, IsTooLong, IsGap, AreItems, AreChars}
use Rattle.token_scanner.specs.Rules.{IsScanner, Ruled}
use Rattle.token_scanner.proofs.Lists.{split, drop_shorter, all_rest, all_drop}
use Rattle.token_scanner.proofs.Right.{front_right}
use Rattle.token_scanner.proofs.Keeping.{cut_items}

module _ {State Kind : Type 0} (syn : Scanner State Kind) (law : IsScanner syn) where
  -- what stands at the front of a text is its token
  token_right : (xs : List ℕ) → AreChars xs → Ruled syn (token_of syn xs) xs
  token_right xs ok = law.rules (front_of syn xs) xs (front_right syn law xs ok)

  -- where the gap at the front of a text ends
  record Gapped (p : Place) (xs : List ℕ) : Type 0 where
    gap : List ℕ
    rest : List ℕ
    text : xs ≡ gap ++ rest
    is : IsGap syn p gap rest
    same : (at : ℕ) → items syn p 0 xs at ≡ front_items syn (token_of syn rest) rest (at + width gap)

  gap_by : (p : Place) (x : ℕ) (xs : List ℕ) (g : Gap) → gap_at syn.lines p x ≡ g → ((q : Place) → Gapped q xs) → Gapped p (x ∷ xs)
  gap_by p x xs (gap.Skip q) e go = let r = go q in record {
    gap = x ∷ r.gap;
    rest = r.rest;
    text = ap (λ y. x ∷ y) r.text;
    is = (q, e, r.is);
    same = λ at. ap (λ g. by_gap g (λ d. items syn d 0 xs (at + len_utf8 x)) (by_front (token_of syn (x ∷ xs)) (x ∷ xs) at (λ n. items syn Between n xs (at + len_utf8 x)))) e
        ∙ r.same (at + len_utf8 x) ∙ ap (front_items syn (token_of syn r.rest) r.rest) (let q : at + len_utf8 x + width r.gap ≡ at + (len_utf8 x + width r.gap) = omega arith in q);
  }
  gap_by p x xs gap.Token e go = record {
    gap = [];
    rest = x ∷ xs;
    text = refl;
    is = e;
    same = λ at. ap (λ g. by_gap g (λ d. items syn d 0 xs (at + len_utf8 x)) (by_front (token_of syn (x ∷ xs)) (x ∷ xs) at (λ n. items syn Between n xs (at + len_utf8 x)))) e
        ∙ ap (front_items syn (token_of syn (x ∷ xs)) (x ∷ xs)) (let q : at ≡ at + 0 = omega arith in q);
  }

  gapped : (p : Place) (xs : List ℕ) → Gapped p xs
  gapped p [] = record { gap = []; rest = []; text = refl; is = tt; same = λ at. ap (front_items syn (token_of syn []) []) (let q : at ≡ at + 0 = omega arith in q) }
  gapped p (x ∷ xs) = gap_by p x xs (gap_at syn.lines p x) refl (λ q. gapped q xs)

  rest_says : (p : Place) (xs : List ℕ) (at : ℕ) (go : (ys : List ℕ) → length ys < length xs → AreChars ys → (end : ℕ) → AreItems syn Between ys end (items syn Between 0 ys end))
      (g rest : List ℕ) → xs ≡ g ++ rest → IsGap syn p g rest → AreChars rest → (f : Front Kind) → Ruled syn f rest → AreItems syn p xs at (front_items syn f rest (at + width g))
  rest_says p xs at go g [] text is all f right =
      let whole : xs ≡ g = text ∙ append-nil g in (subst (λ x. IsGap syn p x []) (sym whole) is, ap (λ x. at + width x) (sym whole))
  rest_says p xs at go g (x ∷ ys) text is all Nothing right = (g, x ∷ ys, text, is, omega arith, right.0, right.1, refl)
  rest_says p xs at go g (x ∷ ys) text is all Long right = (g, x ∷ ys, text, is, omega arith, right, refl)
  rest_says p xs at go g (x ∷ ys) text is all (Token k n) right =
      let place : ℕ = at + width g in
      let rest = x ∷ ys in
      let within : n ≤ length (x ∷ ys) = right.0.in_text in
      let longer : length xs ≡ length g + length (x ∷ ys) = ap length text ∙ length-append g (x ∷ ys) in
      let parts = split n (x ∷ ys) in
      let inner = go (drop n (x ∷ ys)) (omega (arith, drop_shorter n (x ∷ ys) right.0.some (omega arith), longer)) (all_drop n (x ∷ ys) all) (at + width g + width (take n (x ∷ ys))) in
      let same : items syn Between (n - 1) ys (at + width g + len_utf8 x) ≡ items syn Between 0 (drop n (x ∷ ys)) (at + width g + width (take n (x ∷ ys))) =
      ap (λ z. items syn Between (n - 1) z (at + width g + len_utf8 x)) (sym (append-nil ys))
      ∙ cut_items syn n x ys [] (at + width g) right.0.some within
      ∙ ap (λ z. items syn Between 0 z (at + width g + width (take n (x ∷ ys)))) (append-nil (drop n (x ∷ ys))) in
      subst (λ i. AreItems syn p xs at (Item k (take n (x ∷ ys)) (at + width g) i)) (sym same) (
        g,
        drop n (x ∷ ys),
        text ∙ ap (λ y. g ++ y) parts,
        subst (IsGap syn p g) parts is,
        subst (λ y. IsToken syn y k (length (take n (x ∷ ys)))) parts (subst (λ y. IsToken syn (x ∷ ys) k y) (sym (length-take-le n (x ∷ ys) within)) right.0),
        subst (λ y. IsTooLong syn y → ⊥) parts right.1,
        refl,
        inner,
      )

  says : (m : ℕ) (p : Place) (xs : List ℕ) (at : ℕ) → length xs ≤ m → AreChars xs → AreItems syn p xs at (items syn p 0 xs at)
  says zero p xs at le ok = let r = gapped p xs in let all = all_rest r.gap r.rest (subst AreChars r.text ok) in
      subst (AreItems syn p xs at) (sym (r.same at)) (rest_says p xs at (λ ys lt. absurd (omega (arith, lt, le))) r.gap r.rest r.text r.is all (token_of syn r.rest) (token_right r.rest all))
  says (suc m) p xs at le ok = let r = gapped p xs in let all = all_rest r.gap r.rest (subst AreChars r.text ok) in
      subst (AreItems syn p xs at) (sym (r.same at)) (rest_says p xs at (λ ys lt ok end. says m Between ys end (omega (arith, lt, le)) ok) r.gap r.rest r.text r.is all (token_of syn r.rest) (token_right r.rest all))

  pub texts_say : (p : Place) (xs : List ℕ) (at : ℕ) → AreChars xs → AreItems syn p xs at (items syn p 0 xs at)
  texts_say p xs at ok = says (length xs) p xs at (omega arith) ok
