-- What the tokens of a text stand for: UTF-8, parts of IRIs, and tags.
use Rattle.std.proofs.Common.{ℕ, zero, suc, List, [], ◌∷◌, ◌++◌, ◌≡◌, ◌<◌, ◌≤◌, ◌+◌, ◌-◌, ◌||◌, ◌&&◌, ◌==◌, ◌⊎◌, Bool, true, false, cond, nat_le, nat_lt, length, take, drop, map, refl, ap, sym, ◌∙◌, subst, arith, inl, inr, length-append, append-nil}
use Rattle.std.proofs.lemmas.Bool.{false≢true, cases_lt, cond_both, cond-true, cond-false, and_parts, and_from, or_cases, leb-true, ltb-true, cases_Bool, eqb-true}
use Rattle.std.proofs.lemmas.Bool.Decides.{nat_tests}
use Rattle.std.proofs.lemmas.Str.{encode_ascii, length-encode}
use Rattle.std.specs.Prelude.{Option, None, Some}
use Rattle.std.specs.Str.{IsUtf8}
use Rattle.std.specs.Char.{to_ascii_lowercase}
use lib.Utf8.{scalar, scalars, encode, encodes}
use Rattle.text_patterns.specs.Patterns.{Pattern, within, Matches, Each, joined}
use Rattle.text_patterns.specs.Patterns.Pattern.{Never, Nothing, One, Then, Either, Many}
use Rattle.text_patterns.specs.Machines.{Spells}
use Rattle.text_patterns.proofs.Spans.{all_below, below_at}
use Rattle.rdf_chars.specs.Steps as steps
use Rattle.rdf_chars.specs.Decoding.{AreBytes, Decoded, decoded}
use Rattle.rdf_chars.specs.Decoding.Decoded.{Chars, BadAt}
use Rattle.ntriples_tokens.specs.declared.kinds.Kind.TheVariants as lines
use Rattle.ntriples_tokens.specs.Terminals as terminals
use Rattle.rdf_reading.specs.Values.{iri_chars}
use Rattle.ntriples_laws.proofs.Canon.{AllLow, low_encodes, high_bytes, AllHigh, encode_bytes}
use Rattle.ntriples_laws.proofs.Good.{GoodTag}
use Rattle.ntriples_laws.proofs.Bytes.{chars_are_bytes}
use Rattle.ntriples_laws.proofs.Spelled.{mapped, tag_sets, tag_good, lower_low, scalars_parts}
use Rattle.turtle_tokens.specs.declared.kinds.TokenKind.{TokenKind}
use Rattle.turtle_tokens.specs.declared.kinds.TokenKind.TheVariants as kind
use Rattle.token_scanner.specs.declared.place.Place.{Place}
use Rattle.token_scanner.specs.declared.place.Place.TheVariants.{Beginning, Between}
use Rattle.turtle_tokens.specs.Machine.{turtle}
use Rattle.turtle_tokens.specs.Terminals.{spelling}
use Rattle.turtle_tokens.specs.Marks.{three_marks, only_by}
use Rattle.token_scanner.specs.Widths.{width}
use Rattle.turtle_tokens.specs.Scanning.{Items, AreItems, scanner}
use Rattle.token_scanner.specs.Items.Items.{Stop, Bad, TooLong, Item}
use Rattle.token_scanner.specs.Texts.{IsTried, IsTooLong}
use Rattle.rdf_reading.specs.Values.{letter_value, more_digits, char_of, value_from, inside}
use Rattle.turtle_lexer.specs.Values.{marks, before_colon, local_name, name, value, value_text, prefix_width}
use Rattle.turtle_lexer.specs.Streams.{Stream, stream, by_chars, text_stream, tokens}
use Rattle.turtle_lexer.specs.Streams.Stream.{Ends, NoToken, Overlong, Given}
use Rattle.turtle_lexer.specs.Streams.Ahead.{Tokens}
use Rattle.turtle_lexer.specs.Texts.{HasTokens}
use Rattle.turtle_lexer.proofs.Texts as texts
use Rattle.turtle_grammar.specs.declared.terminals.NameForm.TheVariants as form
use Rattle.turtle_grammar.specs.Tokens.{Value, Token}
use Rattle.turtle_grammar.specs.Tokens as grammar
use Rattle.turtle_environments.specs.Words.{token_by}
use Rattle.rdf_reading.specs.Values.{is_excluded}
use Rattle.turtle_environments.specs.Environments.{has_excluded}
use Rattle.turtle_documents.specs.Documents.{lowercase}
use Rattle.reading_laws.specs.Spelling.{IsCut}
use Rattle.reading_laws.specs.Narrow.{IsIri}
use Rattle.reading_laws.proofs.Iris.{AllPlain, plain_append, plain_from, integer_iri, decimal_iri, double_iri, boolean_iri}

-- characters stay characters
pub letter_scalar : (c : ℕ) → scalar c ≡ true → scalar (letter_value c) ≡ true
letter_scalar c h = cond_both (c == 0x74) 9 _ (λ x. scalar x ≡ true) (λ _. refl) (λ _.
    cond_both (c == 0x62) 8 _ (λ x. scalar x ≡ true) (λ _. refl) (λ _.
    cond_both (c == 0x6E) 10 _ (λ x. scalar x ≡ true) (λ _. refl) (λ _.
    cond_both (c == 0x72) 13 _ (λ x. scalar x ≡ true) (λ _. refl) (λ _.
    cond_both (c == 0x66) 12 c (λ x. scalar x ≡ true) (λ _. refl) (λ _. h)))))

char_scalar : (n : ℕ) → scalar (char_of n) ≡ true
char_scalar n = cond_both (scalar n) n 0xFFFD (λ x. scalar x ≡ true) (λ e. e) (λ e. refl)

take_scalars : (n : ℕ) (s : List ℕ) → scalars s ≡ true → scalars (take n s) ≡ true
take_scalars zero [] h = refl
take_scalars zero (c ∷ s) h = refl
take_scalars (suc n) [] h = refl
take_scalars (suc n) (c ∷ s) h = let both = and_parts (scalar c) (scalars s) h in and_from (scalar c) (scalars (take n s)) both.0 (take_scalars n s both.1)

drop_scalars : (n : ℕ) (s : List ℕ) → scalars s ≡ true → scalars (drop n s) ≡ true
drop_scalars zero s h = h
drop_scalars (suc n) [] h = refl
drop_scalars (suc n) (c ∷ s) h = drop_scalars n s (and_parts (scalar c) (scalars s) h).1

-- The lexer's states stay its own: only whole characters and escapes are stepped over.
abbrev pub four_digits : ℕ → ℕ → ℕ → ℕ → ℕ → ℕ
four_digits n a b c d = more_digits (more_digits (more_digits (more_digits n a) b) c) d

pub record Meaning : Type 0 where
  pub of : List ℕ → List ℕ
  pub iri : (chars : List ℕ) → value kind.IriRef chars ≡ of (inside 1 chars)
  pub str : (chars : List ℕ) → value kind.Str chars ≡ of (inside (marks chars) chars)
  pub none : of [] ≡ []
  pub char : (c : ℕ) (s : List ℕ) → (c == 0x5C) ≡ false → of (c ∷ s) ≡ c ∷ of s
  pub letter : (c : ℕ) (s : List ℕ) → (c == 0x75) ≡ false → (c == 0x55) ≡ false → of (0x5C ∷ c ∷ s) ≡ (letter_value c) ∷ of s
  pub four : (a b c d : ℕ) (s : List ℕ) → of (0x5C ∷ 0x75 ∷ a ∷ b ∷ c ∷ d ∷ s) ≡ (char_of (four_digits 0 a b c d)) ∷ of s
  pub eight : (a b c d e f g h : ℕ) (s : List ℕ) → of (0x5C ∷ 0x55 ∷ a ∷ b ∷ c ∷ d ∷ e ∷ f ∷ g ∷ h ∷ s) ≡ (char_of (four_digits (four_digits 0 a b c d) e f g h)) ∷ of s

pub meaning : Meaning
meaning = record {
  of = value_from _;
  iri = λ chars. refl;
  str = λ chars. refl;
  none = refl;
  char = λ c s e. cond-false (c == 0x5C) _ _ e;
  letter = λ c s e f. cond-false (c == 0x75) _ _ e ∙ cond-false (c == 0x55) _ _ f;
  four = λ a b c d s. refl;
  eight = λ a b c d e f g h s. refl;
}

abbrev IsGood : List ℕ → Type 0
IsGood s = scalars (meaning.of s) ≡ true

no_good : (s : List ℕ) → meaning.of s ≡ [] → IsGood s
no_good s e = ap scalars e

more_good : (s : List ℕ) (c : ℕ) (t : List ℕ) → meaning.of s ≡ c ∷ meaning.of t → scalar c ≡ true → IsGood t → IsGood s
more_good s c t e h k = ap scalars e ∙ and_from (scalar c) (scalars (meaning.of t)) h k

-- an escape with four digits, or fewer at the end
four_good : (s : List ℕ) → scalars s ≡ true → ((t : List ℕ) → length t < length s → scalars t ≡ true → IsGood t) → IsGood (0x5C ∷ 0x75 ∷ s)
unfolding meaning
four_good [] k go = refl
four_good (a ∷ []) k go = refl
four_good (a ∷ b ∷ []) k go = refl
four_good (a ∷ b ∷ c ∷ []) k go = refl
four_good (a ∷ b ∷ c ∷ d ∷ s) k go =
    more_good (0x5C ∷ 0x75 ∷ a ∷ b ∷ c ∷ d ∷ s) (char_of (four_digits 0 a b c d)) s (meaning.four a b c d s) (char_scalar (four_digits 0 a b c d)) (go s (omega arith) (drop_scalars 4 (a ∷ b ∷ c ∷ d ∷ s) k))

eight_good : (s : List ℕ) → scalars s ≡ true → ((t : List ℕ) → length t < length s → scalars t ≡ true → IsGood t) → IsGood (0x5C ∷ 0x55 ∷ s)
unfolding meaning
eight_good [] k go = refl
eight_good (a ∷ []) k go = refl
eight_good (a ∷ b ∷ []) k go = refl
eight_good (a ∷ b ∷ c ∷ []) k go = refl
eight_good (a ∷ b ∷ c ∷ d ∷ []) k go = refl
eight_good (a ∷ b ∷ c ∷ d ∷ e ∷ []) k go = refl
eight_good (a ∷ b ∷ c ∷ d ∷ e ∷ f ∷ []) k go = refl
eight_good (a ∷ b ∷ c ∷ d ∷ e ∷ f ∷ g ∷ []) k go = refl
eight_good (a ∷ b ∷ c ∷ d ∷ e ∷ f ∷ g ∷ h ∷ s) k go =
    more_good (0x5C ∷ 0x55 ∷ a ∷ b ∷ c ∷ d ∷ e ∷ f ∷ g ∷ h ∷ s) (char_of (four_digits (four_digits 0 a b c d) e f g h)) s (meaning.eight a b c d e f g h s) (char_scalar (four_digits (four_digits 0 a b c d) e f g h)) (go s (omega arith) (drop_scalars 8 (a ∷ b ∷ c ∷ d ∷ e ∷ f ∷ g ∷ h ∷ s) k))

escape_good : (s : List ℕ) → scalars s ≡ true → ((t : List ℕ) → length t < length s → scalars t ≡ true → IsGood t) → IsGood (0x5C ∷ s)
unfolding meaning
escape_good [] h go = refl
escape_good (c ∷ s) h go =
    let both = and_parts (scalar c) (scalars s) h in
    elim (cases_Bool (c == 0x75)) [
      | inl e ↦ subst (λ x. IsGood (0x5C ∷ x ∷ s)) (sym (eqb-true c 0x75 e)) (four_good s both.1 (λ t l j. go t (omega (arith, l)) j))
      | inr e ↦ elim (cases_Bool (c == 0x55)) [
        | inl f ↦ subst (λ x. IsGood (0x5C ∷ x ∷ s)) (sym (eqb-true c 0x55 f)) (eight_good s both.1 (λ t l j. go t (omega (arith, l)) j))
        | inr f ↦ more_good (0x5C ∷ c ∷ s) (letter_value c) s (meaning.letter c s e f) (letter_scalar c both.0) (go s (omega arith) both.1)
      ]
    ]

value_good : (n : ℕ) (s : List ℕ) → length s < n → scalars s ≡ true → IsGood s
value_good zero s l h = absurd (omega (arith, l))
value_good (suc n) [] l h = no_good [] meaning.none
value_good (suc n) (c ∷ s) l h =
    let both = and_parts (scalar c) (scalars s) h in
    elim (cases_Bool (c == 0x5C)) [
      | inl e ↦ subst (λ x. IsGood (x ∷ s)) (sym (eqb-true c 0x5C e)) (escape_good s both.1 (λ t k j. value_good n t (omega (arith, k, l)) j))
      | inr e ↦ more_good (c ∷ s) c s (meaning.char c s e) both.0 (value_good n s (omega (arith, l)) both.1)
    ]

value_scalars : (s : List ℕ) → scalars s ≡ true → scalars (meaning.of s) ≡ true
value_scalars s h = value_good (suc (length s)) s (omega arith) h

local_scalars : (s : List ℕ) → scalars s ≡ true → scalars (local_name s) ≡ true
local_scalars [] h = refl
local_scalars (c ∷ s) h = let both = and_parts (scalar c) (scalars s) h in
    cond_both (c == 0x5C) _ _ (λ x. scalars x ≡ true) (λ _. local_scalars s both.1) (λ _. and_from (scalar c) (scalars (local_name s)) both.0 (local_scalars s both.1))

name_scalars : (s : List ℕ) → scalars s ≡ true → scalars (name s) ≡ true
name_scalars [] h = refl
name_scalars (c ∷ s) h = let both = and_parts (scalar c) (scalars s) h in
    cond_both (c == 0x3A) _ _ (λ x. scalars x ≡ true) (λ _. local_scalars s both.1) (λ _. and_from (scalar c) (scalars (name s)) both.0 (name_scalars s both.1))

utf8_of : (cs : List ℕ) → scalars cs ≡ true → IsUtf8 (encodes cs)
utf8_of cs h = (cs, (h, refl))

-- a local name behind its prefix
after_colon : List ℕ → List ℕ
after_colon [] = []
after_colon (c ∷ s) = cond (c == 0x3A) s (after_colon s)

dropped_front : (a b : List ℕ) (n : ℕ) → drop (length a + n) (a ++ b) ≡ drop n b
dropped_front [] b n = ap (λ k. drop k b) (let e : 0 + n ≡ n = omega arith in e)
dropped_front (x ∷ a) b n = ap (λ k. drop k (x ∷ (a ++ b))) (let e : length (x ∷ a) + n ≡ suc (length a + n) = omega arith in e) ∙ dropped_front a b n

local_is : (s : List ℕ) → drop (width (before_colon s)) (encodes (name s)) ≡ encodes (local_name (after_colon s))
unfolding after_colon
local_is [] = refl
local_is (c ∷ s) = by (c == 0x3A) (local_is s)
  where
    by : (b : Bool) → drop (width (before_colon s)) (encodes (name s)) ≡ encodes (local_name (after_colon s))
        → drop (width (cond b [] (c ∷ before_colon s))) (encodes (cond b (local_name s) (c ∷ name s))) ≡ encodes (local_name (cond b s (after_colon s)))
    by true h = refl
    by false h = ap (λ k. drop (k + width (before_colon s)) (encode c ++ encodes (name s))) (sym (length-encode c)) ∙ dropped_front (encode c) (encodes (name s)) (width (before_colon s)) ∙ h

-- characters of names: those of IRIs, and the backslash
abbrev name_chars : List (ℕ × ℕ)
name_chars = (0x5C, 0x5C) ∷ iri_chars

abbrev AllNamed : List ℕ → Type 0
AllNamed [] = Unit {0}
AllNamed (c ∷ cs) = (within name_chars c ≡ true) × AllNamed cs

abbrev is_in : ℕ × ℕ → List (ℕ × ℕ) → Bool
is_in r [] = false
is_in r (s ∷ ss) = (nat_le s.0 r.0 && nat_le r.1 s.1) || is_in r ss

abbrev are_in : List (ℕ × ℕ) → List (ℕ × ℕ) → Bool
are_in [] ss = true
are_in (r ∷ rs) ss = is_in r ss && are_in rs ss

or_left : (a b : Bool) → a ≡ true → (a || b) ≡ true
or_left true b h = refl
or_left false b h = absurd (false≢true h)

or_right : (a b : Bool) → b ≡ true → (a || b) ≡ true
or_right true b h = refl
or_right false b h = h

in_within : (r : ℕ × ℕ) (ss : List (ℕ × ℕ)) (c : ℕ) → is_in r ss ≡ true → (nat_le r.0 c && nat_le c r.1) ≡ true → within ss c ≡ true
in_within r [] c h k = absurd (false≢true h)
in_within r (s ∷ ss) c h k = elim (or_cases (nat_le s.0 r.0 && nat_le r.1 s.1) (is_in r ss) h) [
  | inl a ↦
      let two = and_parts (nat_le s.0 r.0) (nat_le r.1 s.1) a in
      let three = and_parts (nat_le r.0 c) (nat_le c r.1) k in
      let low : s.0 ≤ c = omega (arith, leb-true s.0 r.0 two.0, leb-true r.0 c three.0) in
      let high : c ≤ s.1 = omega (arith, leb-true r.1 s.1 two.1, leb-true c r.1 three.1) in
      or_left (nat_le s.0 c && nat_le c s.1) (within ss c) (and_from (nat_le s.0 c) (nat_le c s.1) (grind (arith, nat_tests, low)) (grind (arith, nat_tests, high)))
  | inr b ↦ or_right (nat_le s.0 c && nat_le c s.1) (within ss c) (in_within r ss c b k)
]

are_within : (rs ss : List (ℕ × ℕ)) (c : ℕ) → are_in rs ss ≡ true → within rs c ≡ true → within ss c ≡ true
are_within [] ss c h k = absurd (false≢true k)
are_within (r ∷ rs) ss c h k = let both = and_parts (is_in r ss) (are_in rs ss) h in elim (or_cases (nat_le r.0 c && nat_le c r.1) (within rs c) k) [
  | inl a ↦ in_within r ss c both.0 a
  | inr b ↦ are_within rs ss c both.1 b
]

abbrev is_named : Pattern → Bool
is_named Never = true
is_named Nothing = true
is_named (One rs) = are_in rs name_chars
is_named (Then p q) = is_named p && is_named q
is_named (Either p q) = is_named p && is_named q
is_named (Many p) = is_named p

named_append : (a b : List ℕ) → AllNamed a → AllNamed b → AllNamed (a ++ b)
named_append [] b h k = k
named_append (c ∷ a) b h k = (h.0, named_append a b h.1 k)

named_parts : (p : Pattern) → ((s : List ℕ) → Matches p s → AllNamed s) → (parts : List (List ℕ)) → Each (Matches p) parts → AllNamed (joined parts)
named_parts p go [] h = tt
named_parts p go (s ∷ parts) h = named_append s (joined parts) (go s h.0) (named_parts p go parts h.1)

named : (p : Pattern) → is_named p ≡ true → (s : List ℕ) → Matches p s → AllNamed s
named Never h s m = absurd m
named Nothing h s m = subst AllNamed (sym m) tt
named (One rs) h s (c, e, w) = subst AllNamed (sym e) (are_within rs name_chars c h w, tt)
named (Then p q) h s (a, b, e, m, n) = let both = and_parts (is_named p) (is_named q) h in subst AllNamed (sym e) (named_append a b (named p both.0 a m) (named q both.1 b n))
named (Either p q) h s (inl m) = named p (and_parts (is_named p) (is_named q) h).0 s m
named (Either p q) h s (inr m) = named q (and_parts (is_named p) (is_named q) h).1 s m
named (Many p) h s (parts, e, each) = subst AllNamed (sym e) (named_parts p (named p h) parts each)

name_named : (s : List ℕ) → Matches (spelling kind.PnameLn) s → AllNamed s
name_named s m = named (spelling kind.PnameLn) refl s m

prefix_named : (s : List ℕ) → Matches (spelling kind.PnameNs) s → AllNamed s
prefix_named s m = named (spelling kind.PnameNs) refl s m

after_named : (s : List ℕ) → AllNamed s → AllNamed (after_colon s)
unfolding after_colon
after_named [] h = tt
after_named (c ∷ s) h = cond_both (c == 0x3A) s (after_colon s) AllNamed (λ _. h.1) (λ _. after_named s h.1)

-- the bytes of a character that an IRI may have
abbrev plain_test : ℕ → Bool
plain_test c = cond (within name_chars c) (cond (is_excluded c) (c == 0x5C) true) true

plain_all : all_below 128 plain_test ≡ true
plain_all = refl

plain_low : (c : ℕ) → c < 128 → within name_chars c ≡ true → (c == 0x5C) ≡ false → is_excluded c ≡ false
plain_low c low w ne = by (is_excluded c) (sym (cond-true (within name_chars c) (cond (is_excluded c) (c == 0x5C) true) true w) ∙ below_at 128 plain_test c plain_all low)
  where
    by : (b : Bool) → cond b (c == 0x5C) true ≡ true → b ≡ false
    by true h = absurd (false≢true (sym ne ∙ h))
    by false h = refl

plain_high : (b : ℕ) → 128 ≤ b → b < 256 → is_excluded b ≡ false
plain_high b h k = grind (arith, nat_tests, h, k)

all_high : (bytes : List ℕ) → AllHigh bytes → AreBytes bytes → AllPlain bytes
all_high [] h k = tt
all_high (b ∷ bytes) h k = (plain_high b h.0 k.0, all_high bytes h.1 k.1)

-- a class whose ranges all end below a number
abbrev are_below : ℕ → List (ℕ × ℕ) → Bool
are_below n [] = true
are_below n (r ∷ rs) = nat_lt r.1 n && are_below n rs

within_below : (n : ℕ) (rs : List (ℕ × ℕ)) (c : ℕ) → are_below n rs ≡ true → within rs c ≡ true → c < n
within_below n [] c a w = absurd (false≢true w)
within_below n (r ∷ rs) c a w =
    let both = and_parts (nat_lt r.1 n) (are_below n rs) a in
    elim (or_cases (nat_le r.0 c && nat_le c r.1) (within rs c) w) [
      | inl here ↦ omega (arith, leb-true c r.1 (and_parts (nat_le r.0 c) (nat_le c r.1) here).1, ltb-true r.1 n both.0)
      | inr there ↦ within_below n rs c both.1 there
    ]

plain_char : (c : ℕ) → within name_chars c ≡ true → (c == 0x5C) ≡ false → AllPlain (encode c)
plain_char c w ne = elim (cases_lt c 128) [
  | inl low ↦ subst AllPlain (sym (encode_ascii c low)) (plain_low c low w ne, tt)
  | inr high ↦ all_high (encode c) (high_bytes c high) (encode_bytes c (within_below 1114112 name_chars c refl w))
]

local_plain : (s : List ℕ) → AllNamed s → AllPlain (encodes (local_name s))
local_plain [] h = tt
local_plain (c ∷ s) h = cond_both (c == 0x5C) _ _ (λ x. AllPlain (encodes x)) (λ _. local_plain s h.1) (λ e. plain_append (encode c) (encodes (local_name s)) (plain_char c h.0 e) (local_plain s h.1))

-- A part of an IRI.
pub record IsPart (text : List ℕ) : Type 0 where
  pub utf8 : IsUtf8 text
  pub allowed : has_excluded text ≡ false

after_scalars : (s : List ℕ) → scalars s ≡ true → scalars (after_colon s) ≡ true
unfolding after_colon
after_scalars [] h = refl
after_scalars (c ∷ s) h = let both = and_parts (scalar c) (scalars s) h in cond_both (c == 0x3A) s (after_colon s) (λ x. scalars x ≡ true) (λ _. both.1) (λ _. after_scalars s both.1)

part_of : (s : List ℕ) → scalars s ≡ true → AllNamed s → IsPart (drop (width (before_colon s)) (encodes (name s)))
part_of s h n = subst IsPart (sym (local_is s)) (record {
  utf8 = utf8_of (local_name (after_colon s)) (local_scalars (after_colon s) (after_scalars s h));
  allowed = plain_from (encodes (local_name (after_colon s))) (local_plain (after_colon s) (after_named s n));
})

-- What a token stands for.
abbrev pub GoodToken : Token → Type 0
GoodToken (grammar.Token.Name form.Reference v) = IsUtf8 v.text
GoodToken (grammar.Token.Name form.Namespace v) = IsUtf8 v.text × IsPart (drop v.cut v.text)
GoodToken (grammar.Token.Name form.Local v) = IsUtf8 v.text × IsPart (drop v.cut v.text)
GoodToken (grammar.Token.Literal d v) = IsIri d × IsUtf8 v.text
GoodToken (grammar.Token.Str v) = IsUtf8 v.text
GoodToken (grammar.Token.At w v) = GoodTag (lowercase v.text)
GoodToken _ = Unit {0}

-- its characters
abbrev IsString : TokenKind → List ℕ → Type 0
IsString k chars = (k ≡ kind.Str) ⊎ (Spells turtle k chars × (width chars ≤ 65536))

record IsSpelled (k : TokenKind) (chars : List ℕ) : Type 0 where
  spelled : IsString k chars
  good : scalars chars ≡ true

drop_low : (n : ℕ) (s : List ℕ) → AllLow s → AllLow (drop n s)
drop_low zero s h = h
drop_low (suc n) [] h = tt
drop_low (suc n) (c ∷ s) h = drop_low n s h.1

tag_of : (chars : List ℕ) → IsSpelled kind.AtWord chars → GoodTag (lowercase (encodes (drop 1 chars)))
tag_of chars t = by t.spelled
  where
    by : IsString kind.AtWord chars → GoodTag (lowercase (encodes (drop 1 chars)))
    by (inl e) = absurd (cc e)
    by (inr m) =
        let b : List ℕ = drop 1 chars in
        let low : AllLow b = drop_low 1 chars (mapped to_ascii_lowercase (terminals.spelling lines.AtWord) tag_sets chars m.0).1 in
        let same : encodes (map to_ascii_lowercase b) ≡ lowercase (encodes b) = low_encodes (map to_ascii_lowercase b) (lower_low b low) ∙ ap lowercase (sym (low_encodes b low)) in
        subst GoodTag same (tag_good chars (record { spelled = m.0; good = t.good; narrow = m.1 }))

good_token : (k : TokenKind) (chars : List ℕ) (at : ℕ) → IsSpelled k chars → GoodToken (token_by k (value_text k chars) (prefix_width k chars) at)
good_token kind.IriRef chars at t = utf8_of (value kind.IriRef chars) (ap scalars (meaning.iri chars) ∙ value_scalars (inside 1 chars) (drop_scalars 1 (take (length chars - 1) chars) (take_scalars (length chars - 1) chars t.good)))
good_token kind.PnameNs chars at t = (utf8_of (name chars) (name_scalars chars t.good), part_of chars t.good (by t.spelled))
  where
    by : IsString kind.PnameNs chars → AllNamed chars
    by (inl e) = absurd (cc e)
    by (inr m) = prefix_named chars m.0
good_token kind.PnameLn chars at t = (utf8_of (name chars) (name_scalars chars t.good), part_of chars t.good (by t.spelled))
  where
    by : IsString kind.PnameLn chars → AllNamed chars
    by (inl e) = absurd (cc e)
    by (inr m) = name_named chars m.0
good_token kind.Blank chars at t = tt
good_token kind.AtWord chars at t = tag_of chars t
good_token kind.Integer chars at t = (integer_iri, utf8_of chars t.good)
good_token kind.Decimal chars at t = (decimal_iri, utf8_of chars t.good)
good_token kind.Double chars at t = (double_iri, utf8_of chars t.good)
good_token kind.Str chars at t = let n : ℕ = marks chars in utf8_of (value kind.Str chars) (ap scalars (meaning.str chars) ∙ value_scalars (inside n chars) (drop_scalars n (take (length chars - n) chars) (take_scalars (length chars - n) chars t.good)))
good_token kind.A chars at t = tt
good_token kind.True chars at t = (boolean_iri, utf8_of chars t.good)
good_token kind.False chars at t = (boolean_iri, utf8_of chars t.good)
good_token kind.Prefix chars at t = tt
good_token kind.Base chars at t = tt
good_token kind.Dot chars at t = tt
good_token kind.Semicolon chars at t = tt
good_token kind.Comma chars at t = tt
good_token kind.OpenSquare chars at t = tt
good_token kind.CloseSquare chars at t = tt
good_token kind.OpenRound chars at t = tt
good_token kind.CloseRound chars at t = tt
good_token kind.Carets chars at t = tt

abbrev AreGood : Stream → Type 0
AreGood (Given k text cut from to s) = GoodToken (token_by k text cut from) × AreGood s
AreGood _ = Unit {0}

taken_all : (t rest : List ℕ) → take (length t) (t ++ rest) ≡ t
taken_all [] [] = refl
taken_all [] (c ∷ rest) = refl
taken_all (c ∷ t) rest = ap (λ x. c ∷ x) (taken_all t rest)

not_wide : (chars rest : List ℕ) (k : TokenKind) → Spells turtle k chars → (IsTooLong scanner (chars ++ rest) → ⊥) → width chars ≤ 65536
not_wide chars rest k s never = elim (cases_lt 65536 (width chars)) [
  | inl w ↦ absurd (never (record {
    count = length chars;
    in_text = omega (arith, length-append chars rest);
    wide = subst (λ x. 65536 < width x) (sym (taken_all chars rest)) w;
    front = (k, [], subst (Spells turtle k) (sym (append-nil (take (length chars) (chars ++ rest)) ∙ taken_all chars rest)) s);
  }))
  | inr le ↦ le
]

tried : (o : Option ℕ) (k : TokenKind) (chars rest : List ℕ) → (IsTooLong scanner (chars ++ rest) → ⊥) → IsTried scanner (only_by o) k chars → IsString k chars
tried None k chars rest never h = inr (h, not_wide chars rest k h never)
tried (Some mark) k chars rest never h = inl h.0

items_good : (i : Items) (p : Place) (text : List ℕ) (at : ℕ) → scalars text ≡ true → AreItems p text at i → AreGood (stream i)
items_good (Stop end) p text at good a = tt
items_good (Bad place) p text at good a = tt
items_good (TooLong place) p text at good a = tt
items_good (Item k chars place more) p text at good (g, rest, e, gap, first, never, pl, inner) =
    let one = scalars_parts g (chars ++ rest) (ap scalars (sym e) ∙ good) in
    let two = scalars_parts chars rest one.1 in
    let s : IsString k chars = tried (three_marks (chars ++ rest)) k chars rest never (subst (IsTried scanner (only_by (three_marks (chars ++ rest))) k) (taken_all chars rest) first.spelled) in
    (good_token k chars place (record { spelled = s; good = two.0 }), items_good more Between rest (place + width chars) two.1 inner)

-- the tokens that come first
abbrev pub AllGood : List Token → Type 0
AllGood [] = Unit {0}
AllGood (t ∷ ts) = GoodToken t × AllGood ts

cut_good : (s : Stream) (ts : List Token) (rest : Stream) → AreGood s → IsCut s ts rest → AllGood ts
cut_good s [] rest g h = tt
cut_good (Given k text cut from to s) (t ∷ ts) rest g h = (subst GoodToken (sym h.0) g.0, cut_good s ts rest g.1 h.1)
cut_good (Ends at) (t ∷ ts) rest g h = absurd h
cut_good (NoToken at) (t ∷ ts) rest g h = absurd h
cut_good (Overlong at) (t ∷ ts) rest g h = absurd h

pub tokens_good : (bytes : List ℕ) (s : Stream) (ts : List Token) (rest : Stream) → tokens bytes ≡ Tokens s → IsCut s ts rest → AllGood ts
tokens_good bytes s ts rest e cut = by (decoded steps.start bytes) refl e
  where
    right : HasTokens bytes (Tokens s) → AllGood ts
    right (chars, is, c, a, f) = cut_good s ts rest (subst AreGood (sym f) (items_good is Beginning chars 0 c.0 a)) cut

    by : (d : Decoded) → decoded steps.start bytes ≡ d → by_chars d text_stream ≡ Tokens s → AllGood ts
    by (Chars cs) f g = right (subst (HasTokens bytes) e (texts.tokens_right bytes (chars_are_bytes bytes cs f)))
    by (BadAt place) f g = absurd (cc g)
