-- What spelled tokens stand for.
use Rattle.std.proofs.Common.{ℕ, List, [], ◌∷◌, ◌++◌, ◌≡◌, ◌<◌, ◌≤◌, ◌+◌, ◌==◌, ◌&&◌, ◌||◌, Bool, true, false, cond, not, nat_le, length, map, drop, refl, ap, ap₂, sym, ◌∙◌, subst, arith, inl, inr, append-nil, length-append}
use Rattle.std.proofs.lemmas.Bool.{false≢true, false_from_ne_true, cond_both, cond-true, eqb-true, and_parts, and_from, or_parts, leb-true}
use Rattle.std.proofs.lemmas.Bool.Decides.{nat_tests}
use Rattle.std.proofs.lemmas.List.{map-append, length-map}
use Rattle.std.proofs.lemmas.Str.{len_utf8_bounds, len_utf8_ascii}
use Rattle.std.specs.Prelude.{None, Some}
use Rattle.std.specs.Char.{len_utf8, to_ascii_lowercase}
use lib.Utf8.{scalar, scalars, encodes}
use Rattle.text_patterns.specs.Patterns.{Pattern, Matches, Each, joined, within, char}
use Rattle.text_patterns.specs.Patterns.Pattern.{Never, Nothing, One, Then, Either, Many}
use Rattle.text_patterns.specs.Machines.{Spells}
use Rattle.text_patterns.proofs.Spans.{all_below, below_at}
use Rattle.iri_resolve.specs.Splitting.{has_scheme}
use Rattle.rdf_terms.specs.declared.terms.Code.TheVariants.{G5, G6}
use Rattle.ntriples_tokens.specs.declared.kinds.Kind.{Kind}
use Rattle.ntriples_tokens.specs.declared.kinds.Kind.TheVariants as kind
use Rattle.ntriples_tokens.specs.Machine.{ntriples}
use Rattle.ntriples_tokens.specs.Terminals.{iri_char, text_char, echar, uchar, scalar4, scalar8, letter, letter_or_digit, spelling}
use Rattle.token_scanner.specs.Texts.{AreChars}
use Rattle.token_scanner.specs.Widths.{width}
use Rattle.token_scanner.proofs.Widths.{width-append, length_width}
use Rattle.ntriples_reader.specs.Lines.{iri_code}
use Rattle.rdf_reading.specs.Values.{letter_value, char_of, iri_chars, is_excluded}
use Rattle.ntriples_reader.specs.Values.{value_text, tag_text}
use Rattle.rdf_reading.specs.Values as values
use Rattle.ntriples_writer.specs.Lines.{escape_letter, escape_by, escaped}
use Rattle.ntriples_laws.proofs.Reading.{spelled_ran}
use Rattle.ntriples_laws.proofs.Meaning.{meaning, four_digits}
use Rattle.ntriples_laws.proofs.Canon.{IriChars, AllLow, inside_is, not_slash, escape_cases, low_encodes}
use Rattle.ntriples_laws.proofs.Good.{GoodIri, GoodText, GoodTag}

-- patterns of one length
abbrev pub size : Pattern → ℕ
size Never = 0
size Nothing = 0
size (One rs) = 1
size (Then p q) = size p + size q
size (Either p q) = size p
size (Many p) = 0

abbrev pub is_sized : Pattern → Bool
is_sized Never = true
is_sized Nothing = true
is_sized (One rs) = true
is_sized (Then p q) = is_sized p && is_sized q
is_sized (Either p q) = (size p == size q) && (is_sized p && is_sized q)
is_sized (Many p) = false

pub sized : (p : Pattern) (s : List ℕ) → is_sized p ≡ true → Matches p s → length s ≡ size p
sized Never s h m = absurd m
sized Nothing s h m = ap length m
sized (One rs) s h (c, e, w) = ap length e
sized (Then p q) s h (a, b, e, m, n) = let both = and_parts (is_sized p) (is_sized q) h in omega (arith, ap length e, length-append a b, sized p a both.0 m, sized q b both.1 n)
sized (Either p q) s h (inl m) = let both = and_parts (size p == size q) (is_sized p && is_sized q) h in sized p s (and_parts (is_sized p) (is_sized q) both.1).0 m
sized (Either p q) s h (inr m) = let both = and_parts (size p == size q) (is_sized p && is_sized q) h in
    sized q s (and_parts (is_sized p) (is_sized q) both.1).1 m ∙ sym (eqb-true (size p) (size q) both.0)
sized (Many p) s h m = absurd (false≢true h)

pub one_char : (x c : ℕ) → within ((x, x) ∷ []) c ≡ true → c ≡ x
one_char x c h = grind (arith, nat_tests, h)

pub char_is : (x : ℕ) (s : List ℕ) → Matches (char x) s → s ≡ x ∷ []
char_is x s (c, e, w) = e ∙ ap (λ y. y ∷ []) (one_char x c w)

-- a token between two marks
pub record Between (a b : ℕ) (p : Pattern) (chars : List ℕ) : Type 0 where
  pub inner : List ℕ
  pub is : chars ≡ a ∷ (inner ++ b ∷ [])
  pub matches : Matches p inner

pub between : (a b : ℕ) (p : Pattern) (chars : List ℕ) → Matches (Then (char a) (Then p (char b))) chars → Between a b p chars
between a b p chars (x, y, e, m, (u, v, f, n, o)) = record {
  inner = u;
  is = e ∙ ap₂ (λ s t. s ++ t) (char_is a x m) (f ∙ ap (λ t. u ++ t) (char_is b v o));
  matches = n;
}

-- lists of four and of eight
pub record Four (s : List ℕ) : Type 0 where
  pub a : ℕ
  pub b : ℕ
  pub c : ℕ
  pub d : ℕ
  pub rest : List ℕ
  pub is : s ≡ a ∷ b ∷ c ∷ d ∷ rest
  pub left : length s ≡ length rest + 4

pub four_of : (s : List ℕ) → 4 ≤ length s → Four s
four_of (a ∷ b ∷ c ∷ d ∷ rest) h = record { a = a; b = b; c = c; d = d; rest = rest; is = refl; left = omega arith }
four_of [] h = absurd (omega (arith, h))
four_of (a ∷ []) h = absurd (omega (arith, h))
four_of (a ∷ b ∷ []) h = absurd (omega (arith, h))
four_of (a ∷ b ∷ c ∷ []) h = absurd (omega (arith, h))

pub nothing_left : (s : List ℕ) → length s ≡ 0 → s ≡ []
nothing_left [] h = refl
nothing_left (c ∷ s) h = absurd (omega (arith, h))

-- an escape by number: one character, of which it takes at least six
pub record Counted (s rest : List ℕ) : Type 0 where
  pub char : ℕ
  pub value : meaning.value (s ++ rest) ≡ (char_of char) ∷ meaning.value rest
  pub bad : meaning.bad (s ++ rest) ≡ (is_excluded (char_of char) || meaning.bad rest)
  pub wide : 6 ≤ width s

pub counted_four : (s rest : List ℕ) (a b c d : ℕ) → s ≡ 0x5C ∷ 0x75 ∷ a ∷ b ∷ c ∷ d ∷ [] → Counted s rest
counted_four s rest a b c d e = record {
  char = four_digits 0 a b c d;
  value = ap (λ t. meaning.value (t ++ rest)) e ∙ meaning.four a b c d rest;
  bad = ap (λ t. meaning.bad (t ++ rest)) e ∙ meaning.four_bad a b c d rest;
  wide = omega (arith, ap length e, length_width s);
}

pub counted_eight : (s rest : List ℕ) (a b c d x y z w : ℕ) → s ≡ 0x5C ∷ 0x55 ∷ a ∷ b ∷ c ∷ d ∷ x ∷ y ∷ z ∷ w ∷ [] → Counted s rest
counted_eight s rest a b c d x y z w e = record {
  char = four_digits (four_digits 0 a b c d) x y z w;
  value = ap (λ t. meaning.value (t ++ rest)) e ∙ meaning.eight a b c d x y z w rest;
  bad = ap (λ t. meaning.bad (t ++ rest)) e ∙ meaning.eight_bad a b c d x y z w rest;
  wide = omega (arith, ap length e, length_width s);
}

-- a backslash, a mark and digits
pub escape_is : (s a b x ds : List ℕ) (mark : ℕ) → s ≡ a ++ b → Matches (char 0x5C) a → b ≡ x ++ ds → Matches (char mark) x → s ≡ 0x5C ∷ mark ∷ ds
escape_is s a b x ds mark e m f n = e ∙ ap₂ (λ t u. t ++ u) (char_is 0x5C a m) (f ∙ ap (λ t. t ++ ds) (char_is mark x n))

pub four_are : (ds : List ℕ) (q : Four ds) → length ds ≡ 4 → ds ≡ q.a ∷ q.b ∷ q.c ∷ q.d ∷ []
four_are ds q h = q.is ∙ ap (λ t. q.a ∷ q.b ∷ q.c ∷ q.d ∷ t) (nothing_left q.rest (omega (arith, h, q.left)))

pub eight_are : (ds : List ℕ) (q : Four ds) (r : Four q.rest) → length ds ≡ 8 → ds ≡ q.a ∷ q.b ∷ q.c ∷ q.d ∷ r.a ∷ r.b ∷ r.c ∷ r.d ∷ []
eight_are ds q r h = q.is ∙ ap (λ t. q.a ∷ q.b ∷ q.c ∷ q.d ∷ t) (four_are q.rest r (omega (arith, h, q.left)))

pub of_four : (s rest ds : List ℕ) (q : Four ds) → length ds ≡ 4 → s ≡ 0x5C ∷ 0x75 ∷ ds → Counted s rest
of_four s rest ds q long e = counted_four s rest q.a q.b q.c q.d (e ∙ ap (λ t. 0x5C ∷ 0x75 ∷ t) (four_are ds q long))

pub of_eight : (s rest ds : List ℕ) (q : Four ds) (r : Four q.rest) → length ds ≡ 8 → s ≡ 0x5C ∷ 0x55 ∷ ds → Counted s rest
of_eight s rest ds q r long e = counted_eight s rest q.a q.b q.c q.d r.a r.b r.c r.d (e ∙ ap (λ t. 0x5C ∷ 0x55 ∷ t) (eight_are ds q r long))

pub counted : (s rest : List ℕ) → Matches (Then (char 0x5C) uchar) s → Counted s rest
counted s rest (a, b, e, m, inl (x, ds, f, n, o)) =
    let long : length ds ≡ 4 = sized scalar4 ds refl o in
    of_four s rest ds (four_of ds (omega (arith, long))) long (escape_is s a b x ds 0x75 e m f n)
counted s rest (a, b, e, m, inr (x, ds, f, n, o)) =
    let long : length ds ≡ 8 = sized scalar8 ds refl o in
    let q = four_of ds (omega (arith, long)) in
    of_eight s rest ds q (four_of q.rest (omega (arith, long, q.left))) long (escape_is s a b x ds 0x55 e m f n)

pub not_excluded : (c : ℕ) → is_excluded c ≡ false → within iri_chars c ≡ true
not_excluded c h = by (within iri_chars c) h
  where
    by : (b : Bool) → not b ≡ false → b ≡ true
    by true h = refl
    by false h = absurd (false≢true (sym h))

pub char_scalar : (n : ℕ) → scalar (char_of n) ≡ true
char_scalar n = cond_both (scalar n) n 0xFFFD (λ x. scalar x ≡ true) (λ e. e) (λ e. refl)

-- The value of what is between the marks: its characters, and its width, with escapes too, which is no greater than it was.
pub record Valued (s : List ℕ) : Type 0 where
  pub good : scalars (meaning.value s) ≡ true
  pub narrow : width (escaped (meaning.value s)) ≤ width s

pub escaped_wide : (c : ℕ) → width (escape_by c (escape_letter c)) ≤ 4
escaped_wide c = escape_cases c (λ o. width (escape_by c o) ≤ 4) (λ e. omega arith) (λ e. omega arith) (λ e. omega arith) (λ e. omega arith) (λ e f. omega (arith, (len_utf8_bounds c).1))

pub valued_counted : (s rest : List ℕ) → Counted s rest → Valued rest → Valued (s ++ rest)
valued_counted s rest r v =
    let c : ℕ = char_of r.char in
    let wide : width (escape_by c (escape_letter c)) ≤ 4 = escaped_wide c in
    let six : 6 ≤ width s = r.wide in
    let narrow : width (escaped (meaning.value rest)) ≤ width rest = v.narrow in
    record {
      good = ap scalars r.value ∙ and_from (scalar c) (scalars (meaning.value rest)) (char_scalar r.char) v.good;
      narrow = subst (λ x. width (escaped x) ≤ width (s ++ rest)) (sym r.value)
          (omega (arith, width-append (escape_by c (escape_letter c)) (escaped (meaning.value rest)), width-append s rest, wide, six, narrow));
    }

-- a character that stands for itself
pub valued_char : (s rest : List ℕ) (c : ℕ) → s ≡ c ∷ [] → (c == 0x5C) ≡ false → width (escape_by c (escape_letter c)) ≤ len_utf8 c → scalar c ≡ true → Valued rest → Valued (s ++ rest)
valued_char s rest c e ne le sc v = subst (λ t. Valued (t ++ rest)) (sym e) (by (meaning.char c rest ne))
  where
    by : meaning.value (c ∷ rest) ≡ c ∷ meaning.value rest → Valued (c ∷ rest)
    by value =
        let narrow : width (escaped (meaning.value rest)) ≤ width rest = v.narrow in
        record {
          good = ap scalars value ∙ and_from (scalar c) (scalars (meaning.value rest)) sc v.good;
          narrow = subst (λ x. width (escaped x) ≤ width (c ∷ rest)) (sym value)
              (omega (arith, width-append (escape_by c (escape_letter c)) (escaped (meaning.value rest)), le, narrow));
        }

-- the characters of an IRI are those that it may have
pub iri_parts : (parts : List (List ℕ)) → Each (Matches (Either iri_char (Then (char 0x5C) uchar))) parts → meaning.bad (joined parts) ≡ false → IriChars (meaning.value (joined parts))
iri_parts [] h ok = subst IriChars (sym meaning.none) tt
iri_parts (s ∷ parts) (inl (c, e, w), h) ok =
    let whole : s ++ joined parts ≡ c ∷ joined parts = ap (λ t. t ++ joined parts) e in
    let value : meaning.value (s ++ joined parts) ≡ c ∷ meaning.value (joined parts) = ap meaning.value whole ∙ meaning.char c (joined parts) (not_slash c w) in
    let bad : meaning.bad (s ++ joined parts) ≡ meaning.bad (joined parts) = ap meaning.bad whole ∙ meaning.char_bad c (joined parts) (not_slash c w) in
    subst IriChars (sym value) (w, iri_parts parts h (sym bad ∙ ok))
iri_parts (s ∷ parts) (inr m, h) ok =
    let r = counted s (joined parts) m in
    let both = or_parts (is_excluded (char_of r.char)) (meaning.bad (joined parts)) (sym r.bad ∙ ok) in
    subst IriChars (sym r.value) (not_excluded (char_of r.char) both.0, iri_parts parts h both.1)

pub scalars_parts : (a b : List ℕ) → scalars (a ++ b) ≡ true → (scalars a ≡ true) × (scalars b ≡ true)
scalars_parts [] b h = (refl, h)
scalars_parts (c ∷ a) b h = let both = and_parts (scalar c) (scalars (a ++ b)) h in let rest = scalars_parts a b both.1 in (and_from (scalar c) (scalars a) both.0 rest.0, rest.1)

pub first_scalar : (s : List ℕ) (c : ℕ) → s ≡ c ∷ [] → scalars s ≡ true → scalar c ≡ true
first_scalar s c e h = (and_parts (scalar c) true (ap scalars (sym e) ∙ h)).0

pub plain_escape : (rs : List (ℕ × ℕ)) (c : ℕ) → within rs c ≡ true → within rs 0x22 ≡ false → within rs 0x5C ≡ false → within rs 0xA ≡ false → within rs 0xD ≡ false → width (escape_by c (escape_letter c)) ≤ len_utf8 c
plain_escape rs c w a b d f = escape_cases c (λ o. width (escape_by c o) ≤ len_utf8 c)
    (λ e. absurd (false≢true (sym a ∙ ap (within rs) (sym e) ∙ w))) (λ e. absurd (false≢true (sym b ∙ ap (within rs) (sym e) ∙ w)))
    (λ e. absurd (false≢true (sym d ∙ ap (within rs) (sym e) ∙ w))) (λ e. absurd (false≢true (sym f ∙ ap (within rs) (sym e) ∙ w)))
    (λ e g. omega arith)

pub iri_valued : (parts : List (List ℕ)) → Each (Matches (Either iri_char (Then (char 0x5C) uchar))) parts → scalars (joined parts) ≡ true → Valued (joined parts)
iri_valued [] h ok = record { good = ap scalars meaning.none; narrow = subst (λ x. width (escaped x) ≤ 0) (sym meaning.none) (omega arith) }
iri_valued (s ∷ parts) (inl (c, e, w), h) ok = let both = scalars_parts s (joined parts) ok in
    valued_char s (joined parts) c e (not_slash c w) (plain_escape iri_chars c w refl refl refl refl) (first_scalar s c e both.0) (iri_valued parts h both.1)
iri_valued (s ∷ parts) (inr m, h) ok = valued_counted s (joined parts) (counted s (joined parts) m) (iri_valued parts h (scalars_parts s (joined parts) ok).1)

abbrev pub text_chars : List (ℕ × ℕ)
text_chars = (0x0, 0x9) ∷ (0xB, 0xC) ∷ (0xE, 0x21) ∷ (0x23, 0x5B) ∷ (0x5D, 0x10FFFF) ∷ []

abbrev pub escape_chars : List (ℕ × ℕ)
escape_chars = (0x74, 0x74) ∷ (0x62, 0x62) ∷ (0x6E, 0x6E) ∷ (0x72, 0x72) ∷ (0x66, 0x66) ∷ (0x22, 0x22) ∷ (0x27, 0x27) ∷ (0x5C, 0x5C) ∷ []

pub is_not : (rs : List (ℕ × ℕ)) (c x : ℕ) → within rs c ≡ true → within rs x ≡ false → (c == x) ≡ false
is_not rs c x w h = false_from_ne_true (c == x) (λ e. false≢true (sym h ∙ ap (within rs) (sym (eqb-true c x e)) ∙ w))

pub letter_scalar : (c : ℕ) → scalar c ≡ true → scalar (letter_value c) ≡ true
letter_scalar c h = cond_both (c == 0x74) 9 _ (λ x. scalar x ≡ true) (λ _. refl) (λ _.
    cond_both (c == 0x62) 8 _ (λ x. scalar x ≡ true) (λ _. refl) (λ _.
    cond_both (c == 0x6E) 10 _ (λ x. scalar x ≡ true) (λ _. refl) (λ _.
    cond_both (c == 0x72) 13 _ (λ x. scalar x ≡ true) (λ _. refl) (λ _.
    cond_both (c == 0x66) 12 c (λ x. scalar x ≡ true) (λ _. refl) (λ _. h)))))

abbrev pub letter_test : ℕ → Bool
letter_test c = cond (within escape_chars c) (nat_le (width (escaped ((letter_value c) ∷ []))) 2) true

pub letters_narrow : all_below 128 letter_test ≡ true
letters_narrow = refl

pub escape_below : (c : ℕ) → within escape_chars c ≡ true → c < 128
escape_below c h = grind (arith, nat_tests, h)

pub letter_narrow : (c : ℕ) → within escape_chars c ≡ true → width (escape_by (letter_value c) (escape_letter (letter_value c))) ≤ 2
letter_narrow c w =
    let small : nat_le (width (escaped ((letter_value c) ∷ []))) 2 ≡ true =
    sym (cond-true (within escape_chars c) (nat_le (width (escaped ((letter_value c) ∷ []))) 2) true w) ∙ below_at 128 letter_test c letters_narrow (escape_below c w) in
    subst (λ t. width t ≤ 2) (append-nil (escape_by (letter_value c) (escape_letter (letter_value c)))) (leb-true (width (escaped ((letter_value c) ∷ []))) 2 small)

pub valued_letter : (s rest : List ℕ) (c : ℕ) → s ≡ 0x5C ∷ c ∷ [] → within escape_chars c ≡ true → scalar c ≡ true → Valued rest → Valued (s ++ rest)
valued_letter s rest c e w sc v = subst (λ t. Valued (t ++ rest)) (sym e) (by (meaning.letter c rest (is_not escape_chars c 0x75 w refl) (is_not escape_chars c 0x55 w refl)))
  where
    by : meaning.value (0x5C ∷ c ∷ rest) ≡ (letter_value c) ∷ meaning.value rest → Valued (0x5C ∷ c ∷ rest)
    by value =
        let x : ℕ = letter_value c in
        let narrow : width (escaped (meaning.value rest)) ≤ width rest = v.narrow in
        let small : width (escape_by x (escape_letter x)) ≤ 2 = letter_narrow c w in
        let some : 1 ≤ len_utf8 c = (len_utf8_bounds c).0 in
        record {
          good = ap scalars value ∙ and_from (scalar x) (scalars (meaning.value rest)) (letter_scalar c sc) v.good;
          narrow = subst (λ y. width (escaped y) ≤ width (0x5C ∷ c ∷ rest)) (sym value)
              (omega (arith, width-append (escape_by x (escape_letter x)) (escaped (meaning.value rest)), small, some, narrow));
        }

pub text_valued : (parts : List (List ℕ)) → Each (Matches (Either text_char (Then (char 0x5C) (Either echar uchar)))) parts → scalars (joined parts) ≡ true → Valued (joined parts)
text_valued [] h ok = record { good = ap scalars meaning.none; narrow = subst (λ x. width (escaped x) ≤ 0) (sym meaning.none) (omega arith) }
text_valued (s ∷ parts) (inl (c, e, w), h) ok = let both = scalars_parts s (joined parts) ok in
    valued_char s (joined parts) c e (is_not text_chars c 0x5C w refl) (plain_escape text_chars c w refl refl refl refl) (first_scalar s c e both.0) (text_valued parts h both.1)
text_valued (s ∷ parts) (inr (a, b, e, m, inl (c, f, w)), h) ok =
    let both = scalars_parts s (joined parts) ok in
    let part : s ≡ 0x5C ∷ c ∷ [] = e ∙ ap₂ (λ t u. t ++ u) (char_is 0x5C a m) f in
    valued_letter s (joined parts) c part w (and_parts (scalar c) true (ap scalars (sym part) ∙ both.0)).0 (text_valued parts h both.1)
text_valued (s ∷ parts) (inr (a, b, e, m, inr n), h) ok = valued_counted s (joined parts) (counted s (joined parts) (a, b, e, m, n)) (text_valued parts h (scalars_parts s (joined parts) ok).1)

pub inner_width : (a b : ℕ) (s : List ℕ) → a < 128 → b < 128 → width (a ∷ (s ++ b ∷ [])) ≡ width s + 2
inner_width a b s h k = omega (arith, width-append s (b ∷ []), len_utf8_ascii a h, len_utf8_ascii b k)

pub inner_scalars : (a b : ℕ) (s : List ℕ) → scalars (a ∷ (s ++ b ∷ [])) ≡ true → scalars s ≡ true
inner_scalars a b s h = (scalars_parts s (b ∷ []) (and_parts (scalar a) (scalars (s ++ b ∷ [])) h).1).0

pub code_none : (b d : Bool) → cond b (Some G6) (cond d None (Some G5)) ≡ None → (b ≡ false) × (d ≡ true)
code_none true d e = absurd (cc e)
code_none false true e = (refl, refl)
code_none false false e = absurd (cc e)

pub wider : (cs : List ℕ) → width cs ≤ width (escaped cs)
wider [] = omega arith
wider (c ∷ cs) = omega (arith, wider cs, width-append (escape_by c (escape_letter c)) (escaped cs), one c)
  where
    one : (c : ℕ) → len_utf8 c ≤ width (escape_by c (escape_letter c))
    one c = escape_cases c (λ o. len_utf8 c ≤ width (escape_by c o)) (λ e. omega (arith, ap len_utf8 e)) (λ e. omega (arith, ap len_utf8 e)) (λ e. omega (arith, ap len_utf8 e)) (λ e. omega (arith, ap len_utf8 e)) (λ e f. omega arith)

-- a token as the reader takes it
pub record IsToken (k : Kind) (chars : List ℕ) : Type 0 where
  pub spelled : Spells ntriples k chars
  pub good : scalars chars ≡ true
  pub narrow : width chars ≤ 65536

pub iri_good : (chars : List ℕ) → IsToken kind.IriRef chars → iri_code chars ≡ None → GoodIri (value_text chars)
iri_good chars t ok =
    let b = between 0x3C 0x3E (Many (Either iri_char (Then (char 0x5C) uchar))) chars t.spelled in
    let inner : values.inside 1 chars ≡ joined b.matches.0 = ap (values.inside 1) b.is ∙ inside_is 0x3C 0x3E b.inner ∙ b.matches.1 in
    let code = code_none (meaning.bad (values.inside 1 chars)) (has_scheme (value_text chars)) (sym (meaning.code chars) ∙ ok) in
    let good : scalars (joined b.matches.0) ≡ true = ap scalars (sym b.matches.1) ∙ inner_scalars 0x3C 0x3E b.inner (ap scalars (sym b.is) ∙ t.good) in
    let v = iri_valued b.matches.0 b.matches.2 good in
    let long : width chars ≡ width (joined b.matches.0) + 2 = ap width b.is ∙ inner_width 0x3C 0x3E b.inner (omega arith) (omega arith) ∙ ap (λ s. width s + 2) b.matches.1 in
    let narrow : width (escaped (meaning.value (joined b.matches.0))) ≤ width (joined b.matches.0) = v.narrow in
    let small : width chars ≤ 65536 = t.narrow in
    record {
      chars = meaning.value (joined b.matches.0);
      is = meaning.text chars ∙ ap (λ s. encodes (meaning.value s)) inner;
      good = v.good;
      allowed = iri_parts b.matches.0 b.matches.2 (ap meaning.bad (sym inner) ∙ code.0);
      scheme = code.1;
      narrow = omega (arith, wider (meaning.value (joined b.matches.0)), narrow, long, small);
    }

pub text_good : (chars : List ℕ) → IsToken kind.Str chars → GoodText (value_text chars)
text_good chars t =
    let b = between 0x22 0x22 (Many (Either text_char (Then (char 0x5C) (Either echar uchar)))) chars t.spelled in
    let inner : values.inside 1 chars ≡ joined b.matches.0 = ap (values.inside 1) b.is ∙ inside_is 0x22 0x22 b.inner ∙ b.matches.1 in
    let good : scalars (joined b.matches.0) ≡ true = ap scalars (sym b.matches.1) ∙ inner_scalars 0x22 0x22 b.inner (ap scalars (sym b.is) ∙ t.good) in
    let v = text_valued b.matches.0 b.matches.2 good in
    let long : width chars ≡ width (joined b.matches.0) + 2 = ap width b.is ∙ inner_width 0x22 0x22 b.inner (omega arith) (omega arith) ∙ ap (λ s. width s + 2) b.matches.1 in
    let narrow : width (escaped (meaning.value (joined b.matches.0))) ≤ width (joined b.matches.0) = v.narrow in
    let small : width chars ≤ 65536 = t.narrow in
    record {
      chars = meaning.value (joined b.matches.0);
      is = meaning.text chars ∙ ap (λ s. encodes (meaning.value s)) inner;
      good = v.good;
      narrow = omega (arith, narrow, long, small);
    }

-- tags: letters stay letters in lower case
abbrev pub Sets : (ℕ → ℕ) → Pattern → Type 0
Sets f Never = Unit {0}
Sets f Nothing = Unit {0}
Sets f (One rs) = (c : ℕ) → within rs c ≡ true → (within rs (f c) ≡ true) × (c < 128)
Sets f (Then p q) = Sets f p × Sets f q
Sets f (Either p q) = Sets f p × Sets f q
Sets f (Many p) = Sets f p

pub low_append : (a b : List ℕ) → AllLow a → AllLow b → AllLow (a ++ b)
low_append [] b h k = k
low_append (c ∷ a) b h k = (h.0, low_append a b h.1 k)

pub mapped_parts : (f : ℕ → ℕ) (p : Pattern) → ((s : List ℕ) → Matches p s → Matches p (map f s) × AllLow s) → (parts : List (List ℕ)) → Each (Matches p) parts
    → Each (Matches p) (map (map f) parts) × (map f (joined parts) ≡ joined (map (map f) parts)) × AllLow (joined parts)
mapped_parts f p go [] h = (tt, refl, tt)
mapped_parts f p go (s ∷ parts) h =
    let one = go s h.0 in
    let rest = mapped_parts f p go parts h.1 in
    ((one.0, rest.0), map-append f s (joined parts) ∙ ap (λ t. map f s ++ t) rest.1, low_append s (joined parts) one.1 rest.2)

pub mapped : (f : ℕ → ℕ) (p : Pattern) → Sets f p → (s : List ℕ) → Matches p s → Matches p (map f s) × AllLow s
mapped f Never h s m = absurd m
mapped f Nothing h s m = (ap (map f) m, subst AllLow (sym m) tt)
mapped f (One rs) h s (c, e, w) = let k = h c w in ((f c, ap (map f) e, k.0), subst AllLow (sym e) (k.1, tt))
mapped f (Then p q) h s (a, b, e, m, n) =
    let x = mapped f p h.0 a m in
    let y = mapped f q h.1 b n in
    ((map f a, map f b, ap (map f) e ∙ map-append f a b, x.0, y.0), subst AllLow (sym e) (low_append a b x.1 y.1))
mapped f (Either p q) h s (inl m) = let x = mapped f p h.0 s m in (inl x.0, x.1)
mapped f (Either p q) h s (inr m) = let x = mapped f q h.1 s m in (inr x.0, x.1)
mapped f (Many p) h s (parts, e, each) =
    let x = mapped_parts f p (mapped f p h) parts each in
    ((map (map f) parts, ap (map f) e ∙ x.1, x.0), subst AllLow (sym e) x.2)

abbrev pub closed : List (ℕ × ℕ) → ℕ → Bool
closed rs c = cond (within rs c) (within rs (to_ascii_lowercase c)) true

pub closed_at : (rs : List (ℕ × ℕ)) → all_below 128 (closed rs) ≡ true → (c : ℕ) → c < 128 → within rs c ≡ true → within rs (to_ascii_lowercase c) ≡ true
closed_at rs all c low w = sym (cond-true (within rs c) (within rs (to_ascii_lowercase c)) true w) ∙ below_at 128 (closed rs) c all low

abbrev pub letters : List (ℕ × ℕ)
letters = (0x41, 0x5A) ∷ (0x61, 0x7A) ∷ []

abbrev pub letters_digits : List (ℕ × ℕ)
letters_digits = (0x30, 0x39) ∷ (0x41, 0x5A) ∷ (0x61, 0x7A) ∷ []

pub letters_low : (c : ℕ) → within letters c ≡ true → c < 128
letters_low c h = grind (arith, nat_tests, h)

pub letters_digits_low : (c : ℕ) → within letters_digits c ≡ true → c < 128
letters_digits_low c h = grind (arith, nat_tests, h)

pub letter_set : Sets to_ascii_lowercase letter
letter_set c h = (closed_at letters refl c (letters_low c h) h, letters_low c h)

pub digit_set : Sets to_ascii_lowercase letter_or_digit
digit_set c h = (closed_at letters_digits refl c (letters_digits_low c h) h, letters_digits_low c h)

pub sign_set : (x : ℕ) → x < 128 → to_ascii_lowercase x ≡ x → Sets to_ascii_lowercase (char x)
sign_set x low same c h = let e = one_char x c h in (subst (λ y. within ((x, x) ∷ []) y ≡ true) (sym (ap to_ascii_lowercase e ∙ same ∙ sym e)) h, omega (arith, e, low))

pub tag_sets : Sets to_ascii_lowercase (spelling kind.AtWord)
tag_sets = (sign_set 0x40 (omega arith) refl, ((letter_set, letter_set), (sign_set 0x2D (omega arith) refl, (digit_set, digit_set))))

pub low_chars : (s : List ℕ) → AllLow s → AreChars s
low_chars [] h = tt
low_chars (c ∷ s) h = (omega (arith, h.0), low_chars s h.1)

pub lower_low : (s : List ℕ) → AllLow s → AllLow (map to_ascii_lowercase s)
lower_low [] h = tt
lower_low (c ∷ s) h = (lower_char c h.0, lower_low s h.1)
  where
    lower_char : (c : ℕ) → c < 128 → to_ascii_lowercase c < 128
    lower_char c h = grind (arith, nat_tests, h)

pub lower_twice : (s : List ℕ) → map to_ascii_lowercase (map to_ascii_lowercase s) ≡ map to_ascii_lowercase s
lower_twice [] = refl
lower_twice (c ∷ s) = ap₂ (λ x y. x ∷ y) (twice c) (lower_twice s)
  where
    twice : (c : ℕ) → to_ascii_lowercase (to_ascii_lowercase c) ≡ to_ascii_lowercase c
    twice c = grind (arith, nat_tests)

pub low_width : (s : List ℕ) → AllLow s → width s ≡ length s
low_width [] h = refl
low_width (c ∷ s) h = omega (arith, len_utf8_ascii c h.0, low_width s h.1)

pub length_lower : (s : List ℕ) → length (map to_ascii_lowercase s) ≡ length s
length_lower s = length-map s to_ascii_lowercase

pub tag_good : (chars : List ℕ) → IsToken kind.AtWord chars → GoodTag (tag_text chars)
tag_good chars t = by t.spelled
  where
    by : Spells ntriples kind.AtWord chars → GoodTag (tag_text chars)
    by (a, b, e, m, n) =
        let whole : chars ≡ 0x40 ∷ b = e ∙ ap (λ s. s ++ b) (char_is 0x40 a m) in
        let both = mapped to_ascii_lowercase (spelling kind.AtWord) tag_sets chars t.spelled in
        let low : AllLow b = (subst AllLow whole both.1).1 in
        let lower : AllLow (map to_ascii_lowercase b) = lower_low b low in
        let text : tag_text chars ≡ map to_ascii_lowercase b = ap (λ s. encodes (map to_ascii_lowercase (drop 1 s))) whole ∙ low_encodes (map to_ascii_lowercase b) lower in
        let spelled : Spells ntriples kind.AtWord (0x40 ∷ map to_ascii_lowercase b) = subst (λ s. Spells ntriples kind.AtWord (map to_ascii_lowercase s)) whole both.0 in
        let wide : width chars ≡ 1 + width b = ap width whole in
        let small : width chars ≤ 65536 = t.narrow in
        subst GoodTag (sym text) (record {
          run = spelled_ran kind.AtWord (0x40 ∷ map to_ascii_lowercase b) (low_chars (0x40 ∷ map to_ascii_lowercase b) (omega arith, lower)) spelled;
          low = lower;
          small = lower_twice b;
          narrow = omega (arith, length_lower b, low_width b low, wide, small);
        })
