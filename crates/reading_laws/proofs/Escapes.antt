-- The values of IRIs and strings are those of their characters and escapes.
use Rattle.std.proofs.Common.{ℕ, zero, suc, List, [], ◌∷◌, ◌++◌, ◌≡◌, ◌<◌, ◌≤◌, ◌+◌, ◌-◌, ◌*◌, ◌^◌, ◌||◌, ◌&&◌, ◌==◌, ◌⊎◌, Bool, true, false, cond, nat_le, nat_lt, length, take, drop, is_some, refl, ap, ap₂, sym, ◌∙◌, subst, arith, inl, inr, true≢false, length-append, append_assoc, append-nil}
use Rattle.std.proofs.lemmas.Bool.{false≢true, cases_lt, cond-true, cond-false, lt-ltb, ltb-true, eqb-true, eq-eqb}
use Rattle.std.proofs.lemmas.Bool.Decides.{nat_tests}
use Rattle.std.proofs.lemmas.List.{take-append-le}
use Rattle.std.proofs.Math.Seq.{take-length}
use Rattle.std.specs.Prelude.{Option, None, Some}
use Rattle.std.specs.Char.{digit_value}
use lib.Utf8.{scalar, low_scalar}
use Rattle.text_patterns.specs.Patterns.{Pattern, within, Matches, Each, joined, char}
use Rattle.text_patterns.specs.Patterns.Pattern.{Nothing, One, Then, Either, Many}
use Rattle.text_patterns.specs.Machines.{Spells}
use Rattle.text_patterns.proofs.Spans.{all_below, below_at}
use Rattle.rdf_chars.specs.Escapes.{hexadecimal, escaped}
use Rattle.rdf_reading.specs.Values.{iri_chars}
use Rattle.ntriples_laws.proofs.Canon.{inside_is}
use Rattle.ntriples_laws.proofs.Spelled.{char_is, between, is_not}
use Rattle.turtle_tokens.specs.declared.kinds.TokenKind.TheVariants as kind
use Rattle.turtle_tokens.specs.Machine.{turtle}
use Rattle.turtle_tokens.specs.Terminals.{hex, scalar4, scalar8, uchar, echar, escape, iri_char}
use Rattle.turtle_tokens.specs.Marks.{three_marks}
use Rattle.rdf_reading.specs.Values.{letter_value, more_digits, char_of, inside}
use Rattle.turtle_lexer.specs.Values.{marks, value}
use Rattle.reading_laws.specs.Escapes.{IsPart, StandsFor}
use Rattle.reading_laws.proofs.Values.{meaning, four_digits}

-- digits
abbrev hex_chars : List (ℕ × ℕ)
hex_chars = (0x30, 0x39) ∷ (0x41, 0x46) ∷ (0x61, 0x66) ∷ []

abbrev low_chars : List (ℕ × ℕ)
low_chars = (0x30, 0x39) ∷ (0x41, 0x43) ∷ (0x45, 0x46) ∷ (0x61, 0x63) ∷ (0x65, 0x66) ∷ []

abbrev test_of : List (ℕ × ℕ) → (ℕ → Bool) → ℕ → Bool
test_of rs p c = cond (within rs c) (p (digit_value c)) true

below_digits : (c : ℕ) → within hex_chars c ≡ true → c < 128
below_digits c h = grind (arith, nat_tests, h)

tested : (rs : List (ℕ × ℕ)) (p : ℕ → Bool) → all_below 128 (test_of rs p) ≡ true → (c : ℕ) → c < 128 → within rs c ≡ true → p (digit_value c) ≡ true
tested rs p all c low w = sym (cond-true (within rs c) (p (digit_value c)) true w) ∙ below_at 128 (test_of rs p) c all low

hex_small : (c : ℕ) → within hex_chars c ≡ true → digit_value c < 16
hex_small c w = ltb-true (digit_value c) 16 (tested hex_chars (λ n. nat_lt n 16) refl c (below_digits c w) w)

-- the number of four digits behind another
abbrev four : ℕ → ℕ → ℕ → ℕ → ℕ → ℕ
four n a b c d = (((n * 16 + digit_value a) * 16 + digit_value b) * 16 + digit_value c) * 16 + digit_value d

more_is : (n c : ℕ) → n < 0x1_0000_0000 → more_digits n c ≡ n * 16 + digit_value c
more_is n c h = cond-true (nat_lt n 0x1_0000_0000) (n * 16 + digit_value c) 0 (lt-ltb n 0x1_0000_0000 h)

four_is : (n a b c d : ℕ) → n < 65536 → digit_value a < 16 → digit_value b < 16 → digit_value c < 16 → digit_value d < 16 → four_digits n a b c d ≡ four n a b c d
four_is n a b c d k ha hb hc hd =
    let x : ℕ = n * 16 + digit_value a in
    let y : ℕ = x * 16 + digit_value b in
    let z : ℕ = y * 16 + digit_value c in
    ap (λ m. more_digits (more_digits (more_digits m b) c) d) (more_is n a (omega arith))
    ∙ ap (λ m. more_digits (more_digits m c) d) (more_is x b (omega arith))
    ∙ ap (λ m. more_digits m d) (more_is y c (omega arith))
    ∙ more_is z d (omega arith)

hex_more : (n c : ℕ) (s : List ℕ) → digit_value c < 16 → hexadecimal n (c ∷ s) ≡ hexadecimal (n * 16 + digit_value c) s
hex_more n c s h = cond-true (nat_lt (digit_value c) 16) (hexadecimal (n * 16 + digit_value c) s) None (lt-ltb (digit_value c) 16 h)

hex_four : (n a b c d : ℕ) (s : List ℕ) → digit_value a < 16 → digit_value b < 16 → digit_value c < 16 → digit_value d < 16 → hexadecimal n (a ∷ b ∷ c ∷ d ∷ s) ≡ hexadecimal (four n a b c d) s
hex_four n a b c d s ha hb hc hd =
    let x : ℕ = n * 16 + digit_value a in
    let y : ℕ = x * 16 + digit_value b in
    let z : ℕ = y * 16 + digit_value c in
    hex_more n a (b ∷ c ∷ d ∷ s) ha ∙ hex_more x b (c ∷ d ∷ s) hb ∙ hex_more y c (d ∷ s) hc ∙ hex_more z d s hd

high_scalar : (n : ℕ) → 0xE000 ≤ n → n < 0x110000 → scalar n ≡ true
high_scalar n h k = grind (arith, nat_tests, h, k)

-- what stands behind a digit
record Digits (s : List ℕ) : Type 0 where
  a : ℕ
  b : ℕ
  c : ℕ
  d : ℕ
  is : s ≡ a ∷ b ∷ c ∷ d ∷ []
  ha : digit_value a < 16
  hb : digit_value b < 16
  hc : digit_value c < 16
  hd : digit_value d < 16

digits_of : (s a b c d : List ℕ) (x y z w : ℕ) → s ≡ a ++ (b ++ (c ++ d)) → a ≡ x ∷ [] → b ≡ y ∷ [] → c ≡ z ∷ [] → d ≡ w ∷ [] → s ≡ x ∷ y ∷ z ∷ w ∷ []
digits_of s a b c d x y z w e f g h k = e ∙ ap₂ (λ p q. p ++ q) f (ap₂ (λ p q. p ++ q) g (ap₂ (λ p q. p ++ q) h k))

low_small : (c : ℕ) → within low_chars c ≡ true → (digit_value c < 16) × (digit_value c ≡ 13 → ⊥)
low_small c w =
    let low : c < 128 = grind (arith, nat_tests, w) in
    let small = ltb-true (digit_value c) 16 (tested low_chars (λ n. nat_lt n 16) refl c low w) in
    let other = tested low_chars (λ n. Rattle.std.proofs.Common.not (n == 13)) refl c low w in
    (small, λ e. absurd (false≢true (ap Rattle.std.proofs.Common.not (sym (eq-eqb (digit_value c) 13 e)) ∙ other)))

abbrev d_chars : List (ℕ × ℕ)
d_chars = (0x44, 0x44) ∷ (0x64, 0x64) ∷ []

d_is : (c : ℕ) → within d_chars c ≡ true → digit_value c ≡ 13
d_is c w = let low : c < 128 = grind (arith, nat_tests, w) in eqb-true (digit_value c) 13 (tested d_chars (λ n. n == 13) refl c low w)

abbrev seven_chars : List (ℕ × ℕ)
seven_chars = (0x30, 0x37) ∷ []

seven_is : (c : ℕ) → within seven_chars c ≡ true → digit_value c < 8
seven_is c w = let low : c < 128 = grind (arith, nat_tests, w) in ltb-true (digit_value c) 8 (tested seven_chars (λ n. nat_lt n 8) refl c low w)

record Four (s : List ℕ) : Type 0 where
  digits : Digits s
  good : scalar (four 0 digits.a digits.b digits.c digits.d) ≡ true

four_of : (s : List ℕ) → Matches scalar4 s → Four s
four_of s (inl (a, r, e, (x, f, w), (b, t, g, (y, h, v), (c, d, i, (z, j, u), (q, k, o))))) =
    let n = low_small x w in
    let ds : Digits s = record {
      a = x;
      b = y;
      c = z;
      d = q;
      is = digits_of s a b c d x y z q (e ∙ ap (λ p. a ++ p) (g ∙ ap (λ p. b ++ p) i)) f h j k;
      ha = n.0;
      hb = hex_small y v;
      hc = hex_small z u;
      hd = hex_small q o;
    } in
    record {
      digits = ds;
      good = elim (cases_lt (digit_value x) 13) [
        | inl low ↦ low_scalar (four 0 x y z q) (omega (arith, low, ds.hb, ds.hc, ds.hd))
        | inr high ↦ high_scalar (four 0 x y z q) (omega (arith, high, n.1)) (omega (arith, ds.ha, ds.hb, ds.hc, ds.hd))
      ];
    }
four_of s (inr (a, r, e, (x, f, w), (b, t, g, (y, h, v), (c, d, i, (z, j, u), (q, k, o))))) =
    let n = d_is x w in
    let m = seven_is y v in
    record {
      digits = record {
        a = x;
        b = y;
        c = z;
        d = q;
        is = digits_of s a b c d x y z q (e ∙ ap (λ p. a ++ p) (g ∙ ap (λ p. b ++ p) i)) f h j k;
        ha = omega (arith, n);
        hb = omega (arith, m);
        hc = hex_small z u;
        hd = hex_small q o;
      };
      good = low_scalar (four 0 x y z q) (omega (arith, n, m, hex_small z u, hex_small q o));
    }

hex4_of : (s : List ℕ) → Matches (Then hex (Then hex (Then hex hex))) s → Digits s
hex4_of s (a, r, e, (x, f, w), (b, t, g, (y, h, v), (c, d, i, (z, j, u), (q, k, o)))) = record {
  a = x;
  b = y;
  c = z;
  d = q;
  is = digits_of s a b c d x y z q (e ∙ ap (λ p. a ++ p) (g ∙ ap (λ p. b ++ p) i)) f h j k;
  ha = hex_small x w;
  hb = hex_small y v;
  hc = hex_small z u;
  hd = hex_small q o;
}

abbrev some_chars : List (ℕ × ℕ)
some_chars = (0x31, 0x39) ∷ (0x41, 0x46) ∷ (0x61, 0x66) ∷ []

some_small : (c : ℕ) → within some_chars c ≡ true → (digit_value c < 16) × (0 < digit_value c)
some_small c w =
    let low : c < 128 = grind (arith, nat_tests, w) in
    (ltb-true (digit_value c) 16 (tested some_chars (λ n. nat_lt n 16) refl c low w), ltb-true 0 (digit_value c) (tested some_chars (λ n. nat_lt 0 n) refl c low w))

-- eight digits
record Eight (s : List ℕ) : Type 0 where
  front : List ℕ
  back : List ℕ
  first : Digits front
  last : Digits back
  is : s ≡ front ++ back
  few : four 0 first.a first.b first.c first.d < 65536
  good : scalar (four (four 0 first.a first.b first.c first.d) last.a last.b last.c last.d) ≡ true

abbrev zero_digits : (c : ℕ) → digit_value c < 16 → Digits (0x30 ∷ 0x30 ∷ 0x30 ∷ c ∷ [])
zero_digits c h = record { a = 0x30; b = 0x30; c = 0x30; d = c; is = refl; ha = omega arith; hb = omega arith; hc = omega arith; hd = h }

abbrev sixteen_digits : Digits (0x30 ∷ 0x30 ∷ 0x31 ∷ 0x30 ∷ [])
sixteen_digits = record { a = 0x30; b = 0x30; c = 0x31; d = 0x30; is = refl; ha = omega arith; hb = omega arith; hc = omega arith; hd = omega arith }

joined_four : (s a b c d r : List ℕ) (x y z w : ℕ) → s ≡ a ++ (b ++ (c ++ (d ++ r))) → a ≡ x ∷ [] → b ≡ y ∷ [] → c ≡ z ∷ [] → d ≡ w ∷ [] → s ≡ (x ∷ y ∷ z ∷ w ∷ []) ++ r
joined_four s a b c d r x y z w e f g h k = e ∙ ap₂ (λ p q. p ++ q) f (ap₂ (λ p q. p ++ q) g (ap₂ (λ p q. p ++ q) h (ap (λ p. p ++ r) k)))

eight_of : (s : List ℕ) → Matches scalar8 s → Eight s
eight_of s (a, t, e, m, (b, u, f, n, inl (c, v, g, o, inl (d, r, h, p, q)))) =
    let last = four_of r q in
    record {
      front = 0x30 ∷ 0x30 ∷ 0x30 ∷ 0x30 ∷ [];
      back = r;
      first = zero_digits 0x30 (omega arith);
      last = last.digits;
      is = joined_four s a b c d r 0x30 0x30 0x30 0x30 (e ∙ ap (λ x. a ++ x) (f ∙ ap (λ x. b ++ x) (g ∙ ap (λ x. c ++ x) h))) (char_is 0x30 a m) (char_is 0x30 b n) (char_is 0x30 c o) (char_is 0x30 d p);
      few = omega arith;
      good = last.good;
    }
eight_of s (a, t, e, m, (b, u, f, n, inl (c, v, g, o, inr (d, r, h, (x, i, w), q)))) =
    let last = hex4_of r q in
    let k = some_small x w in
    record {
      front = 0x30 ∷ 0x30 ∷ 0x30 ∷ x ∷ [];
      back = r;
      first = zero_digits x k.0;
      last = last;
      is = joined_four s a b c d r 0x30 0x30 0x30 x (e ∙ ap (λ x. a ++ x) (f ∙ ap (λ x. b ++ x) (g ∙ ap (λ x. c ++ x) h))) (char_is 0x30 a m) (char_is 0x30 b n) (char_is 0x30 c o) i;
      few = omega (arith, k.0);
      good = high_scalar (four (four 0 0x30 0x30 0x30 x) last.a last.b last.c last.d) (omega (arith, k.0, k.1, last.ha, last.hb, last.hc, last.hd)) (omega (arith, k.0, k.1, last.ha, last.hb, last.hc, last.hd));
    }
eight_of s (a, t, e, m, (b, u, f, n, inr (c, v, g, o, (d, r, h, p, q)))) =
    let last = hex4_of r q in
    record {
      front = 0x30 ∷ 0x30 ∷ 0x31 ∷ 0x30 ∷ [];
      back = r;
      first = sixteen_digits;
      last = last;
      is = joined_four s a b c d r 0x30 0x30 0x31 0x30 (e ∙ ap (λ x. a ++ x) (f ∙ ap (λ x. b ++ x) (g ∙ ap (λ x. c ++ x) h))) (char_is 0x30 a m) (char_is 0x30 b n) (char_is 0x31 c o) (char_is 0x30 d p);
      few = omega arith;
      good = high_scalar (four (four 0 0x30 0x30 0x31 0x30) last.a last.b last.c last.d) (omega (arith, last.ha, last.hb, last.hc, last.hd)) (omega (arith, last.ha, last.hb, last.hc, last.hd));
    }

-- A part that stands for a character, and what it adds to a value.
record Part (s rest : List ℕ) : Type 0 where
  char : ℕ
  is : IsPart s char
  value : meaning.of (s ++ rest) ≡ char ∷ meaning.of rest

scalar_char : (n m : ℕ) → m ≡ n → scalar n ≡ true → char_of m ≡ n
scalar_char n m e h = ap char_of e ∙ cond-true (scalar n) n 0xFFFD h

four_part : (s rest ds : List ℕ) → s ≡ 0x5C ∷ 0x75 ∷ ds → Four ds → Part s rest
four_part s rest ds e q =
    let d = q.digits in
    let n : ℕ = four 0 d.a d.b d.c d.d in
    let number : hexadecimal 0 (d.a ∷ d.b ∷ d.c ∷ d.d ∷ []) ≡ Some n = hex_four 0 d.a d.b d.c d.d [] d.ha d.hb d.hc d.hd in
    record {
      char = n;
      is = inr (inr (0x75, ds, e, ap (λ x. Some (length x)) (sym d.is), ap (hexadecimal 0) d.is ∙ number, q.good));
      value = ap (λ x. meaning.of (x ++ rest)) (e ∙ ap (λ x. 0x5C ∷ 0x75 ∷ x) d.is) ∙ meaning.four d.a d.b d.c d.d rest
          ∙ ap (λ x. x ∷ meaning.of rest) (scalar_char n (four_digits 0 d.a d.b d.c d.d) (four_is 0 d.a d.b d.c d.d (omega arith) d.ha d.hb d.hc d.hd) q.good);
    }

eight_part : (s rest ds : List ℕ) → s ≡ 0x5C ∷ 0x55 ∷ ds → Eight ds → Part s rest
eight_part s rest ds e q =
    let d = q.first in
    let l = q.last in
    let m : ℕ = four 0 d.a d.b d.c d.d in
    let n : ℕ = four m l.a l.b l.c l.d in
    let whole : ds ≡ d.a ∷ d.b ∷ d.c ∷ d.d ∷ l.a ∷ l.b ∷ l.c ∷ l.d ∷ [] = q.is ∙ ap₂ (λ x y. x ++ y) d.is l.is in
    let number : hexadecimal 0 (d.a ∷ d.b ∷ d.c ∷ d.d ∷ l.a ∷ l.b ∷ l.c ∷ l.d ∷ []) ≡ Some n =
    hex_four 0 d.a d.b d.c d.d (l.a ∷ l.b ∷ l.c ∷ l.d ∷ []) d.ha d.hb d.hc d.hd ∙ hex_four m l.a l.b l.c l.d [] l.ha l.hb l.hc l.hd in
    let same : four_digits (four_digits 0 d.a d.b d.c d.d) l.a l.b l.c l.d ≡ n =
    ap (λ x. four_digits x l.a l.b l.c l.d) (four_is 0 d.a d.b d.c d.d (omega arith) d.ha d.hb d.hc d.hd) ∙ four_is m l.a l.b l.c l.d q.few l.ha l.hb l.hc l.hd in
    record {
      char = n;
      is = inr (inr (0x55, ds, e, ap (λ x. Some (length x)) (sym whole), ap (hexadecimal 0) whole ∙ number, q.good));
      value = ap (λ x. meaning.of (x ++ rest)) (e ∙ ap (λ x. 0x5C ∷ 0x55 ∷ x) whole) ∙ meaning.eight d.a d.b d.c d.d l.a l.b l.c l.d rest
          ∙ ap (λ x. x ∷ meaning.of rest) (scalar_char n (four_digits (four_digits 0 d.a d.b d.c d.d) l.a l.b l.c l.d) same q.good);
    }

uchar_part : (s rest a b : List ℕ) → s ≡ a ++ b → Matches (char 0x5C) a → Matches uchar b → Part s rest
uchar_part s rest a b e m (inl (x, ds, f, n, o)) = four_part s rest ds (e ∙ ap₂ (λ p q. p ++ q) (char_is 0x5C a m) (f ∙ ap (λ p. p ++ ds) (char_is 0x75 x n))) (four_of ds o)
uchar_part s rest a b e m (inr (x, ds, f, n, o)) = eight_part s rest ds (e ∙ ap₂ (λ p q. p ++ q) (char_is 0x5C a m) (f ∙ ap (λ p. p ++ ds) (char_is 0x55 x n))) (eight_of ds o)

-- an escape by its letter
abbrev letters : List (ℕ × ℕ)
letters = (0x74, 0x74) ∷ (0x62, 0x62) ∷ (0x6E, 0x6E) ∷ (0x72, 0x72) ∷ (0x66, 0x66) ∷ (0x22, 0x22) ∷ (0x27, 0x27) ∷ (0x5C, 0x5C) ∷ []

abbrev same_option : Option ℕ → ℕ → Bool
same_option None n = false
same_option (Some m) n = m == n

abbrev letter_test : ℕ → Bool
letter_test c = cond (within letters c) (same_option (escaped c) (letter_value c)) true

letters_all : all_below 128 letter_test ≡ true
letters_all = refl

option_same : (o : Option ℕ) (n : ℕ) → same_option o n ≡ true → o ≡ Some n
option_same None n h = absurd (false≢true h)
option_same (Some m) n h = ap (λ x. Some x) (eqb-true m n h)

letter_is : (c : ℕ) → within letters c ≡ true → escaped c ≡ Some (letter_value c)
letter_is c w =
    let low : c < 128 = grind (arith, nat_tests, w) in
    option_same (escaped c) (letter_value c) (sym (cond-true (within letters c) (same_option (escaped c) (letter_value c)) true w) ∙ below_at 128 letter_test c letters_all low)

echar_part : (s rest a b : List ℕ) → s ≡ a ++ b → Matches (char 0x5C) a → Matches echar b → Part s rest
echar_part s rest a b e m (c, f, w) =
    let whole : s ≡ 0x5C ∷ c ∷ [] = e ∙ ap₂ (λ p q. p ++ q) (char_is 0x5C a m) f in
    record {
      char = letter_value c;
      is = inr (inl (c, whole, letter_is c w));
      value = ap (λ x. meaning.of (x ++ rest)) whole ∙ meaning.letter c rest (is_not letters c 0x75 w refl) (is_not letters c 0x55 w refl);
    }

escape_part : (s rest : List ℕ) → Matches escape s → Part s rest
escape_part s rest (a, b, e, m, inl n) = echar_part s rest a b e m n
escape_part s rest (a, b, e, m, inr n) = uchar_part s rest a b e m n

plain_part : (rs : List (ℕ × ℕ)) (s rest : List ℕ) → within rs 0x5C ≡ false → Matches (One rs) s → Part s rest
plain_part rs s rest h (c, e, w) =
    let ne = is_not rs c 0x5C w h in
    record {
      char = c;
      is = inl (e, λ f. true≢false (sym (eq-eqb c 0x5C f) ∙ ne));
      value = ap (λ x. meaning.of (x ++ rest)) e ∙ meaning.char c rest ne;
    }

abbrev Stands : List ℕ → Type 0
Stands s = StandsFor s (meaning.of s)

none_stands : Stands []
none_stands = subst (StandsFor []) (sym meaning.none) refl

part_stands : (s rest : List ℕ) → Part s rest → Stands rest → Stands (s ++ rest)
part_stands s rest p h = subst (StandsFor (s ++ rest)) (sym p.value) (s, rest, refl, p.is, h)

iri_stands : (parts : List (List ℕ)) → Each (Matches (Either iri_char (Then (char 0x5C) uchar))) parts → Stands (joined parts)
iri_stands [] h = none_stands
iri_stands (s ∷ parts) (inl m, h) = part_stands s (joined parts) (plain_part iri_chars s (joined parts) refl m) (iri_stands parts h)
iri_stands (s ∷ parts) (inr (a, b, e, m, n), h) = part_stands s (joined parts) (uchar_part s (joined parts) a b e m n) (iri_stands parts h)

short_stands : (rs : List (ℕ × ℕ)) → within rs 0x5C ≡ false → (parts : List (List ℕ)) → Each (Matches (Either (One rs) escape)) parts → Stands (joined parts)
short_stands rs ne [] h = none_stands
short_stands rs ne (s ∷ parts) (inl m, h) = part_stands s (joined parts) (plain_part rs s (joined parts) ne m) (short_stands rs ne parts h)
short_stands rs ne (s ∷ parts) (inr m, h) = part_stands s (joined parts) (escape_part s (joined parts) m) (short_stands rs ne parts h)

-- up to two quote marks first
abbrev quotes : ℕ → Pattern
quotes mark = Either Nothing (Then (char mark) (Either Nothing (char mark)))

mark_stands : (mark : ℕ) (s rest : List ℕ) → within ((mark, mark) ∷ []) 0x5C ≡ false → Matches (char mark) s → Stands rest → Stands (s ++ rest)
mark_stands mark s rest ne m h = part_stands s rest (plain_part ((mark, mark) ∷ []) s rest ne m) h

quotes_stand : (mark : ℕ) (s rest : List ℕ) → within ((mark, mark) ∷ []) 0x5C ≡ false → Matches (quotes mark) s → Stands rest → Stands (s ++ rest)
quotes_stand mark s rest ne (inl e) h = subst (λ x. Stands (x ++ rest)) (sym e) h
quotes_stand mark s rest ne (inr (a, b, e, m, inl f)) h = subst (λ x. Stands (x ++ rest)) (sym (e ∙ ap (λ x. a ++ x) f ∙ append-nil a)) (mark_stands mark a rest ne m h)
quotes_stand mark s rest ne (inr (a, b, e, m, inr n)) h =
    subst (λ x. Stands (x ++ rest)) (sym e) (subst Stands (sym (append_assoc a b rest)) (mark_stands mark a (b ++ rest) ne m (mark_stands mark b rest ne n h)))

long_stands : (mark : ℕ) (rs : List (ℕ × ℕ)) → within ((mark, mark) ∷ []) 0x5C ≡ false → within rs 0x5C ≡ false → (parts : List (List ℕ)) → Each (Matches (Then (quotes mark) (Either (One rs) escape))) parts
    → Stands (joined parts)
long_stands mark rs nm ne [] h = none_stands
long_stands mark rs nm ne (s ∷ parts) ((q, w, e, m, n), h) =
    let rest = long_stands mark rs nm ne parts h in
    subst Stands (sym (ap (λ x. x ++ joined parts) e ∙ append_assoc q w (joined parts))) (quotes_stand mark q (w ++ joined parts) nm m (one n rest))
  where
    one : Matches (Either (One rs) escape) w → Stands (joined parts) → Stands (w ++ joined parts)
    one (inl m) r = part_stands w (joined parts) (plain_part rs w (joined parts) ne m) r
    one (inr m) r = part_stands w (joined parts) (escape_part w (joined parts) m) r

pub iri_value : (chars : List ℕ) → Spells turtle kind.IriRef chars → StandsFor (inside 1 chars) (value kind.IriRef chars)
iri_value chars m =
    let b = between 0x3C 0x3E (Many (Either iri_char (Then (char 0x5C) uchar))) chars m in
    let inner : inside 1 chars ≡ joined b.matches.0 = ap (inside 1) b.is ∙ inside_is 0x3C 0x3E b.inner ∙ b.matches.1 in
    subst (StandsFor (inside 1 chars)) (sym (meaning.iri chars)) (subst Stands (sym inner) (iri_stands b.matches.0 b.matches.2))

-- a short string has one quote mark before and behind it
and_no : (b : Bool) → (b && false) ≡ false
and_no true = refl
and_no false = refl

second_not : (m c : ℕ) (t : List ℕ) → (c == m) ≡ false → three_marks (m ∷ c ∷ t) ≡ None
second_not m c [] h = refl
second_not m c (d ∷ t) h =
    ap (λ b. cond ((m == 0x22 || m == 0x27) && (b && d == m)) (Some m) None) h
    ∙ cond-false ((m == 0x22 || m == 0x27) && false) (Some m) None (and_no (m == 0x22 || m == 0x27))

short_marks : (m : ℕ) (rs : List (ℕ × ℕ)) → within rs m ≡ false → (0x5C == m) ≡ false → (parts : List (List ℕ)) → Each (Matches (Either (One rs) escape)) parts → three_marks (m ∷ (joined parts ++ m ∷ [])) ≡ None
short_marks m rs n q [] h = refl
short_marks m rs n q (s ∷ parts) (inl (c, e, w), h) =
    ap (λ x. three_marks (m ∷ ((x ++ joined parts) ++ m ∷ []))) e ∙ second_not m c (joined parts ++ m ∷ []) (is_not rs c m w n)
short_marks m rs n q (s ∷ parts) (inr (a, b, e, k, o), h) =
    ap (λ x. three_marks (m ∷ ((x ++ joined parts) ++ m ∷ []))) (e ∙ ap (λ x. x ++ b) (char_is 0x5C a k)) ∙ second_not m 0x5C ((b ++ joined parts) ++ m ∷ []) q

short_value : (m : ℕ) (rs : List (ℕ × ℕ)) → within rs m ≡ false → (0x5C == m) ≡ false → within rs 0x5C ≡ false → (chars : List ℕ)
    → Matches (Then (char m) (Then (Many (Either (One rs) escape)) (char m))) chars → StandsFor (inside (marks chars) chars) (value kind.Str chars)
short_value m rs n q ne chars h =
    let b = between m m (Many (Either (One rs) escape)) chars h in
    let is : chars ≡ m ∷ (joined b.matches.0 ++ m ∷ []) = b.is ∙ ap (λ x. m ∷ (x ++ m ∷ [])) b.matches.1 in
    let one : marks chars ≡ 1 = ap (λ o. cond (is_some o) 3 1) (ap three_marks is ∙ short_marks m rs n q b.matches.0 b.matches.2) in
    let inner : inside (marks chars) chars ≡ joined b.matches.0 = ap (λ k. inside k chars) one ∙ ap (inside 1) is ∙ inside_is m m (joined b.matches.0) in
    subst (StandsFor (inside (marks chars) chars)) (sym (meaning.str chars)) (subst Stands (sym inner) (short_stands rs ne b.matches.0 b.matches.2))

-- a long string has three
push_length : (cs : List ℕ) (m : ℕ) → length (cs ++ m ∷ m ∷ m ∷ []) ≡ length cs + 3
push_length cs m = omega (arith, length-append cs (m ∷ m ∷ m ∷ []))

inside_three : (m : ℕ) (cs : List ℕ) → inside 3 (m ∷ m ∷ m ∷ (cs ++ m ∷ m ∷ m ∷ [])) ≡ cs
inside_three m cs =
    let few : length (m ∷ m ∷ m ∷ (cs ++ m ∷ m ∷ m ∷ [])) - 3 ≡ length (m ∷ m ∷ m ∷ cs) = omega (arith, push_length cs m) in
    ap (λ n. drop 3 (take n (m ∷ m ∷ m ∷ (cs ++ m ∷ m ∷ m ∷ [])))) few
    ∙ ap (drop 3) (take-append-le (length (m ∷ m ∷ m ∷ cs)) (m ∷ m ∷ m ∷ cs) (m ∷ m ∷ m ∷ []) (omega arith) ∙ take-length (m ∷ m ∷ m ∷ cs))

long_value : (m : ℕ) (rs : List (ℕ × ℕ)) → ((t : List ℕ) → three_marks (m ∷ m ∷ m ∷ t) ≡ Some m) → within ((m, m) ∷ []) 0x5C ≡ false → within rs 0x5C ≡ false → (chars : List ℕ)
    → Matches (Then (char m) (Then (char m) (Then (char m) (Then (Many (Then (quotes m) (Either (One rs) escape))) (Then (char m) (Then (char m) (char m))))))) chars
    → StandsFor (inside (marks chars) chars) (value kind.Str chars)
long_value m rs three nm ne chars (a, t, e, ma, (b, u, f, mb, (c, v, g, mc, (x, w, h, (parts, k, each), (i, y, j, mi, (l, o, z, ml, mo)))))) =
    let tail : w ≡ m ∷ m ∷ m ∷ [] = j ∙ ap₂ (λ p q. p ++ q) (char_is m i mi) (z ∙ ap₂ (λ p q. p ++ q) (char_is m l ml) (char_is m o mo)) in
    let is : chars ≡ m ∷ m ∷ m ∷ (joined parts ++ m ∷ m ∷ m ∷ []) =
    e ∙ ap₂ (λ p q. p ++ q) (char_is m a ma) (f ∙ ap₂ (λ p q. p ++ q) (char_is m b mb) (g ∙ ap₂ (λ p q. p ++ q) (char_is m c mc) (h ∙ ap₂ (λ p q. p ++ q) k tail))) in
    let many : marks chars ≡ 3 = ap (λ o. cond (is_some o) 3 1) (ap three_marks is ∙ three (joined parts ++ m ∷ m ∷ m ∷ [])) in
    let inner : inside (marks chars) chars ≡ joined parts = ap (λ k. inside k chars) many ∙ ap (inside 3) is ∙ inside_three m (joined parts) in
    subst (StandsFor (inside (marks chars) chars)) (sym (meaning.str chars)) (subst Stands (sym inner) (long_stands m rs nm ne parts each))

abbrev short_rest : ℕ → List (ℕ × ℕ)
short_rest mark = (0x0, 0x9) ∷ (0xB, 0xC) ∷ (0xE, mark - 1) ∷ (mark + 1, 0x5B) ∷ (0x5D, 0x10FFFF) ∷ []

abbrev long_rest : ℕ → List (ℕ × ℕ)
long_rest mark = (0x0, mark - 1) ∷ (mark + 1, 0x5B) ∷ (0x5D, 0x10FFFF) ∷ []

pub string_value : (chars : List ℕ) → Spells turtle kind.Str chars → StandsFor (inside (marks chars) chars) (value kind.Str chars)
string_value chars (inl (inl m)) = short_value 0x22 (short_rest 0x22) refl refl refl chars m
string_value chars (inl (inr m)) = short_value 0x27 (short_rest 0x27) refl refl refl chars m
string_value chars (inr (inl m)) = long_value 0x22 (long_rest 0x22) (λ t. refl) refl refl chars m
string_value chars (inr (inr m)) = long_value 0x27 (long_rest 0x27) (λ t. refl) refl refl chars m
