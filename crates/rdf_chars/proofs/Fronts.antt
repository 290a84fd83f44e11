-- What an escape at the front of a text says of its first characters.
use Rattle.std.proofs.Common.{ℕ, zero, suc, List, [], ◌∷◌, ◌≡◌, ◌≤◌, ◌<◌, ◌+◌, ◌-◌, length, take, drop, get_or, refl, ap, sym, ◌∙◌, subst, arith}
use Rattle.std.proofs.lemmas.List.{length-take-le, take_rest}
use Rattle.std.proofs.lemmas.Grind.{get_or_default_zero}
use Rattle.std.specs.List.{slice_range}
use Rattle.std.specs.Prelude.{true, None, Some}
use lib.Utf8.{scalar}
use Rattle.rdf_chars.specs.Escapes.{IsRead, IsUchar, IsEchar, escaped, hexadecimal, digits_behind}

head_is : (a b : ℕ) (s t : List ℕ) → a ∷ s ≡ b ∷ t → a ≡ b
head_is a b s t e = cc

tail_is : (a b : ℕ) (s t : List ℕ) → a ∷ s ≡ b ∷ t → s ≡ t
tail_is a b s t e = cc

take_cons : (n : ℕ) (text : List ℕ) (a : ℕ) (rest : List ℕ) → take n text ≡ a ∷ rest → (m : ℕ) × (tail : List ℕ) × (text ≡ a ∷ tail) × (take m tail ≡ rest)
take_cons zero text a rest e = absurd (cc)
take_cons (suc n) [] a rest e = absurd (cc)
take_cons (suc n) (x ∷ xs) a rest e = (n, xs, ap (λ y. y ∷ xs) (head_is x a (take n xs) rest e), tail_is x a (take n xs) rest e)

take_all : (m : ℕ) (tail rest : List ℕ) → take m tail ≡ rest → (take (length rest) tail ≡ rest) × (length rest ≤ length tail)
take_all m tail [] e = (refl, omega arith)
take_all m tail (a ∷ rest) e =
    let f = take_cons m tail a rest e in
    let g = take_all f.0 f.1 rest f.3 in
    (ap (take (length (a ∷ rest))) f.2 ∙ ap (λ x. a ∷ x) g.0, subst (λ x. length (a ∷ rest) ≤ length x) (sym f.2) (omega (arith, g.1)))

first_two : (n : ℕ) (text rest : List ℕ) (a b : ℕ) → take n text ≡ a ∷ b ∷ rest
    → (get_or text 0 0 ≡ a) × (get_or text 1 0 ≡ b) × (take (length rest) (drop 2 text) ≡ rest) × (2 + length rest ≤ length text)
first_two n text rest a b e =
    let f = take_cons n text a (b ∷ rest) e in
    let g = take_cons f.0 f.1 b rest f.3 in
    let h = take_all g.0 g.1 rest g.3 in
    let whole : text ≡ a ∷ b ∷ g.1 = f.2 ∙ ap (λ x. a ∷ x) g.2 in (
      ap (λ x. get_or x 0 0) whole,
      ap (λ x. get_or x 1 0) whole,
      ap (λ x. take (length rest) (drop 2 x)) whole ∙ h.0,
      subst (λ x. 2 + length rest ≤ length x) (sym whole) (omega (arith, h.1)),
    )

pub echar_front : (n : ℕ) (text : List ℕ) (c : ℕ) → IsEchar (take n text) c → (2 ≤ length text) × (get_or text 0 0 ≡ 0x5C) × (escaped (get_or text 1 0) ≡ Some c)
echar_front n text c m = let f = first_two n text [] 0x5C m.0 m.1 in (omega (arith, f.3), f.0, ap escaped f.1 ∙ m.2)

pub uchar_front : (n : ℕ) (text : List ℕ) (c : ℕ) → IsUchar (take n text) c → (k : ℕ) × (2 + k ≤ length text) × (get_or text 0 0 ≡ 0x5C) × (digits_behind (get_or text 1 0) ≡ Some k)
    × (hexadecimal 0 (take k (drop 2 text)) ≡ Some c) × (scalar c ≡ true)
uchar_front n text c m = let f = first_two n text m.1 0x5C m.0 m.2 in
    (length m.1, f.3, f.0, ap digits_behind f.1 ∙ m.3, ap (hexadecimal 0) f.2 ∙ m.4, m.5)

pub item : (xs : List ℕ) (i x : ℕ) → i < length xs → x ≡ get_or xs i x → get_or xs i 0 ≡ x
item xs i x h e = sym (get_or_default_zero xs i x h) ∙ sym e

none≢some : (c : ℕ) → None ≡ Some c → ⊥
none≢some c e = cc e

pub echar_none : (text : List ℕ) (from letter : ℕ) → letter ≡ get_or text 1 letter → None ≡ escaped letter → IsRead IsEchar text from None
echar_none text from letter is none = λ n c h m.
    let f = echar_front n text c m in
    none≢some c (none ∙ ap escaped (sym (item text 1 letter (omega (arith, f.0)) is)) ∙ f.2)

pub uchar_no_mark : (text : List ℕ) (from mark : ℕ) → mark ≡ get_or text 1 mark → None ≡ digits_behind mark → IsRead IsUchar text from None
uchar_no_mark text from mark is none = λ n c h m.
    let f = uchar_front n text c m in
    none≢some f.0 (none ∙ ap digits_behind (sym (item text 1 mark (omega (arith, f.1)) is)) ∙ f.3)

some_is : (x y : ℕ) → Some x ≡ Some y → x ≡ y
some_is x y e = cc

-- how many digits there are, once the mark is read
digits_are : (text : List ℕ) (mark k : ℕ) (n c : ℕ) → mark ≡ get_or text 1 mark → Some k ≡ digits_behind mark → IsUchar (take n text) c
    → (2 + k ≤ length text) × (hexadecimal 0 (take k (drop 2 text)) ≡ Some c) × (scalar c ≡ true)
digits_are text mark k n c is e m =
    let f = uchar_front n text c m in
    let same : f.0 ≡ k = some_is f.0 k (sym f.3 ∙ ap digits_behind (item text 1 mark (omega (arith, f.1)) is) ∙ sym e) in
    (subst (λ x. 2 + x ≤ length text) same f.1, subst (λ x. hexadecimal 0 (take x (drop 2 text)) ≡ Some c) same f.4, f.5)

pub uchar_short : (text : List ℕ) (from mark k : ℕ) → mark ≡ get_or text 1 mark → Some k ≡ digits_behind mark → length text < 2 + k → IsRead IsUchar text from None
uchar_short text from mark k is e short = λ n c h m. let f = digits_are text mark k n c is e m in absurd (omega (arith, f.0))

pub uchar_no_number : (text : List ℕ) (from mark k : ℕ) → mark ≡ get_or text 1 mark → Some k ≡ digits_behind mark → None ≡ hexadecimal 0 (take k (drop 2 text)) → IsRead IsUchar text from None
uchar_no_number text from mark k is e none = λ n c h m. let f = digits_are text mark k n c is e m in none≢some c (none ∙ f.1)

pub uchar_no_scalar : (text : List ℕ) (from mark k code : ℕ) → mark ≡ get_or text 1 mark → Some k ≡ digits_behind mark → Some code ≡ hexadecimal 0 (take k (drop 2 text))
    → (scalar code ≡ true → ⊥) → IsRead IsUchar text from None
uchar_no_scalar text from mark k code is e number alien = λ n c h m.
    let f = digits_are text mark k n c is e m in
    alien (subst (λ x. scalar x ≡ true) (some_is c code (sym f.1 ∙ sym number)) f.2)

take_two : (text : List ℕ) (k : ℕ) → 2 + k ≤ length text → take (2 + k) text ≡ get_or text 0 0 ∷ get_or text 1 0 ∷ take k (drop 2 text)
take_two [] k h = absurd (omega arith)
take_two (x ∷ []) k h = absurd (omega arith)
take_two (x ∷ y ∷ rest) k h = let e : 2 + k ≡ suc (suc k) = omega arith in ap (λ n. take n (x ∷ y ∷ rest)) e

drop_length : (text : List ℕ) (k : ℕ) → 2 + k ≤ length text → k ≤ length (drop 2 text)
drop_length [] k h = absurd (omega arith)
drop_length (x ∷ []) k h = absurd (omega arith)
drop_length (x ∷ y ∷ rest) k h = omega arith

pub uchar_some : (text : List ℕ) (from mark k c : ℕ) → 2 + k ≤ length text → get_or text 0 0 ≡ 0x5C → mark ≡ get_or text 1 mark → Some k ≡ digits_behind mark
    → Some c ≡ hexadecimal 0 (take k (drop 2 text)) → scalar c ≡ true → IsRead IsUchar text from (Some (c, from + 2 + k))
uchar_some text from mark k c h slash is e number good = (
  2 + k,
  h,
  (
    get_or text 1 0,
    take k (drop 2 text),
    take_two text k h ∙ ap (λ x. x ∷ get_or text 1 0 ∷ take k (drop 2 text)) slash,
    ap digits_behind (item text 1 mark (omega arith) is) ∙ sym e ∙ ap (λ x. Some x) (sym (length-take-le k (drop 2 text) (drop_length text k h))),
    sym number,
    good,
  ),
  omega arith,
)

pub rest_is : (xs rest : List ℕ) (from : ℕ) → rest ≡ slice_range xs from (length xs) → rest ≡ drop from xs
rest_is xs rest from e = e ∙ take_rest xs from

pub digits_at : (text digits : List ℕ) (k : ℕ) → digits ≡ slice_range text 2 (2 + k) → digits ≡ take k (drop 2 text)
digits_at text digits k e = e ∙ ap (λ n. take n (drop 2 text)) (let q : 2 + k - 2 ≡ k = omega arith in q)
