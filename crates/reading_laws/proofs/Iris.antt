-- What is made of IRIs is one.
use Rattle.std.proofs.Common.{ℕ, zero, suc, List, [], ◌∷◌, ◌++◌, ◌≡◌, ◌<◌, ◌≤◌, ◌+◌, ◌-◌, ◌||◌, ◌&&◌, ◌==◌, Bool, true, false, cond, length, take, drop, get_or, bytes_eq, refl, ap, sym, ◌∙◌, subst, arith, inl, inr, true≢false, length-append}
use Rattle.std.proofs.lemmas.Bool.{false≢true, cases_lt, cond_both, and_parts, and_from}
use Rattle.std.proofs.lemmas.Bool.Decides.{nat_tests}
use Rattle.std.proofs.lemmas.Str.{IsUtf8-append, encode_ascii, length-encode}
use Rattle.std.specs.Prelude.{Option, None, Some, ⊤}
use Rattle.std.specs.List.{list_any}
use Rattle.std.specs.Str.{IsUtf8}
use Rattle.std.specs.Char.{is_ascii_alphabetic}
use lib.Utf8.{scalar, scalars, encode, encodes}
use Rattle.text_patterns.specs.Patterns.{within}
use Rattle.text_patterns.proofs.Spans.{all_below, below_at}
use Rattle.iri_resolve.specs.declared.splitting.Span.{Span}
use Rattle.iri_resolve.specs.Splitting.{has_scheme, is_there, split, is_scheme_byte}
use Rattle.iri_resolve.specs.Dots.{through_last_slash, segment_length, dot_step, without_dots_from, is_slash, starts, up_slash, dot_slash, slash_dot_slash, slash_dot, slash_up_slash, slash_up, dot, up}
use Rattle.iri_resolve.specs.Resolution.{Pieces, piece, piece_of, pieces, marked, recomposed, colon, slashes, question, number_sign, is_empty, or_else, merged, target, resolved}
use Rattle.iri_resolve.proofs.Whole.{resolved_utf8}
use Rattle.token_scanner.specs.Widths.{width}
use Rattle.rdf_reading.specs.Values.{iri_chars}
use Rattle.ntriples_laws.proofs.Canon.{IriChars, small_scalar}
use Rattle.ntriples_laws.proofs.Good.{GoodIri}
use Rattle.rdf_vocabulary.specs.Iris.{rdf_type, rdf_first, rdf_rest, rdf_nil, xsd_integer, xsd_decimal, xsd_double, xsd_boolean}
use Rattle.rdf_reading.specs.Values.{is_excluded}
use Rattle.turtle_environments.specs.Environments.{has_excluded}
use Rattle.turtle_environments.proofs.Schemes.{resolved_scheme, scheme_is, goes_on}
use Rattle.reading_laws.specs.Narrow.{IsIri}

-- each byte may stand in an IRI
abbrev pub AllPlain : List ℕ → Type 0
AllPlain [] = Unit {0}
AllPlain (b ∷ bytes) = (is_excluded b ≡ false) × AllPlain bytes

or_parts : (a b : Bool) → (a || b) ≡ false → (a ≡ false) × (b ≡ false)
or_parts false b h = (refl, h)
or_parts true b h = absurd (true≢false h)

or_from : (a b : Bool) → a ≡ false → b ≡ false → (a || b) ≡ false
or_from false b g h = h
or_from true b g h = absurd (true≢false g)

pub plain_to : (text : List ℕ) → has_excluded text ≡ false → AllPlain text
plain_to [] h = tt
plain_to (b ∷ text) h = let two = or_parts (is_excluded b) (list_any is_excluded text) h in (two.0, plain_to text two.1)

pub plain_from : (text : List ℕ) → AllPlain text → has_excluded text ≡ false
plain_from [] h = refl
plain_from (b ∷ text) h = or_from (is_excluded b) (list_any is_excluded text) h.0 (plain_from text h.1)

pub plain_append : (a b : List ℕ) → AllPlain a → AllPlain b → AllPlain (a ++ b)
plain_append [] b h k = k
plain_append (x ∷ a) b h k = (h.0, plain_append a b h.1 k)

pub plain_parts : (a b : List ℕ) → AllPlain (a ++ b) → AllPlain a × AllPlain b
plain_parts [] b h = (tt, h)
plain_parts (x ∷ a) b h = let r = plain_parts a b h.1 in ((h.0, r.0), r.1)

plain_take : (n : ℕ) (a : List ℕ) → AllPlain a → AllPlain (take n a)
plain_take zero [] h = tt
plain_take zero (x ∷ a) h = tt
plain_take (suc n) [] h = tt
plain_take (suc n) (x ∷ a) h = (h.0, plain_take n a h.1)

plain_drop : (n : ℕ) (a : List ℕ) → AllPlain a → AllPlain (drop n a)
plain_drop zero a h = h
plain_drop (suc n) [] h = tt
plain_drop (suc n) (x ∷ a) h = plain_drop n a h.1

plain_piece : (text : List ℕ) (span : Span) → AllPlain text → AllPlain (piece text span)
plain_piece text span h = plain_take (span.to - span.from) (drop span.from text) (plain_drop span.from text h)

abbrev PlainIfThere : Option (List ℕ) → Type 0
PlainIfThere None = ⊤
PlainIfThere (Some text) = AllPlain text

plain_piece_of : (text : List ℕ) (o : Option Span) → AllPlain text → PlainIfThere (piece_of text o)
plain_piece_of text None h = tt
plain_piece_of text (Some span) h = plain_piece text span h

record ArePlain (p : Pieces) : Type 0 where
  scheme : PlainIfThere p.scheme
  authority : PlainIfThere p.authority
  path : AllPlain p.path
  query : PlainIfThere p.query
  fragment : PlainIfThere p.fragment

plain_pieces : (text : List ℕ) → AllPlain text → ArePlain (pieces text)
plain_pieces text h = record {
  scheme = plain_piece_of text (split text).scheme h;
  authority = plain_piece_of text (split text).authority h;
  path = plain_piece text (split text).path h;
  query = plain_piece_of text (split text).query h;
  fragment = plain_piece_of text (split text).fragment h;
}

plain_marked : (front : List ℕ) (text : Option (List ℕ)) (after : List ℕ) → AllPlain front → AllPlain after → PlainIfThere text → AllPlain (marked front text after)
plain_marked front None after f a h = tt
plain_marked front (Some text) after f a h = plain_append front (text ++ after) f (plain_append text after h a)

plain_recomposed : (p : Pieces) → ArePlain p → AllPlain (recomposed p)
plain_recomposed p h =
    plain_append (marked [] p.scheme colon) (marked slashes p.authority [] ++ (p.path ++ (marked question p.query [] ++ marked number_sign p.fragment []))) (plain_marked [] p.scheme colon tt (refl, tt) h.scheme)
    (plain_append (marked slashes p.authority []) (p.path ++ (marked question p.query [] ++ marked number_sign p.fragment [])) (plain_marked slashes p.authority [] (refl, (refl, tt)) tt h.authority)
    (plain_append p.path (marked question p.query [] ++ marked number_sign p.fragment []) h.path
    (plain_append (marked question p.query []) (marked number_sign p.fragment []) (plain_marked question p.query [] (refl, tt) tt h.query) (plain_marked number_sign p.fragment [] (refl, tt) tt h.fragment))))

abbrev Both : List ℕ × List ℕ → Type 0
Both x = AllPlain x.0 × AllPlain x.1

plain_step : (input output : List ℕ) → AllPlain input → AllPlain output → Both (dot_step input output)
plain_step input output u v =
    cond_both (starts input up_slash) _ _ Both (λ e. (plain_drop 3 input u, v)) (λ _.
    cond_both (starts input dot_slash || starts input slash_dot_slash) _ _ Both (λ e. (plain_drop 2 input u, v)) (λ _.
    cond_both (bytes_eq input slash_dot) _ _ Both (λ e. (plain_take 1 input u, v)) (λ _.
    cond_both (starts input slash_up_slash) _ _ Both (λ e. (plain_drop 3 input u, plain_take (through_last_slash output - 1) output v)) (λ _.
    cond_both (bytes_eq input slash_up) _ _ Both (λ e. (plain_take 1 input u, plain_take (through_last_slash output - 1) output v)) (λ _.
    cond_both (bytes_eq input dot || bytes_eq input up) _ _ Both (λ e. (tt, v)) (λ _. (
      plain_drop (segment_length input) input u,
      plain_append output (take (segment_length input) input) v (plain_take (segment_length input) input u),
    )))))))

plain_dots : (n : ℕ) (input output : List ℕ) → AllPlain input → AllPlain output → AllPlain (without_dots_from n input output)
plain_dots zero input output u v = v
plain_dots (suc n) [] output u v = v
plain_dots (suc n) (b ∷ input) output u v = let both = plain_step (b ∷ input) output u v in plain_dots n (dot_step (b ∷ input) output).0 (dot_step (b ∷ input) output).1 both.0 both.1

plain_else : (a b : Option (List ℕ)) → PlainIfThere a → PlainIfThere b → PlainIfThere (or_else a b)
plain_else None b u v = v
plain_else (Some a) b u v = u

plain_merged : (base : Pieces) (path : List ℕ) → ArePlain base → AllPlain path → AllPlain (merged base path)
plain_merged base path u v = cond_both (is_there base.authority && is_empty base.path) (0x2F ∷ path) (take (through_last_slash base.path) base.path ++ path) AllPlain
    (λ e. (refl, v))
    (λ e. plain_append (take (through_last_slash base.path) base.path) path (plain_take (through_last_slash base.path) base.path u.path) v)

plain_target : (base r : Pieces) → ArePlain base → ArePlain r → ArePlain (target base r)
plain_target base r u v = record {
  scheme = u.scheme;
  authority = plain_else r.authority base.authority v.authority u.authority;
  path = cond_both (is_there r.authority) _ _ AllPlain (λ e. plain_dots (length r.path) r.path [] v.path tt) (λ e.
      cond_both (is_empty r.path) _ _ AllPlain (λ e. u.path) (λ e.
      cond_both (is_slash (get_or r.path 0 0)) _ _ AllPlain (λ e. plain_dots (length r.path) r.path [] v.path tt) (λ e. plain_dots (length (merged base r.path)) (merged base r.path) [] (plain_merged base r.path u v.path) tt)));
  query = cond_both (is_there r.authority) _ _ PlainIfThere (λ e. v.query) (λ e.
      cond_both (is_empty r.path) _ _ PlainIfThere (λ e. plain_else r.query base.query v.query u.query) (λ e. v.query));
  fragment = v.fragment;
}

pub resolved_iri : (base text : List ℕ) → IsIri base → IsUtf8 text → has_excluded text ≡ false → IsIri (resolved base text)
resolved_iri base text b u p = record {
  utf8 = resolved_utf8 base text b.utf8 u;
  scheme = resolved_scheme base text b.scheme;
  allowed = plain_from (resolved base text) (plain_recomposed (target (pieces base) (pieces text)) (plain_target (pieces base) (pieces text) (plain_pieces base (plain_to base b.allowed)) (plain_pieces text (plain_to text p))));
}

-- an IRI with a text behind it
goes_append : (a b : List ℕ) → goes_on a ≡ true → goes_on (a ++ b) ≡ true
goes_append [] b h = absurd (false≢true h)
goes_append (x ∷ a) b h = by (is_scheme_byte x) h (goes_append a b)
  where
    by : (y : Bool) → cond y (goes_on a) (x == 0x3A) ≡ true → (goes_on a ≡ true → goes_on (a ++ b) ≡ true) → cond y (goes_on (a ++ b)) (x == 0x3A) ≡ true
    by true g go = go g
    by false g go = g

scheme_append : (a b : List ℕ) → has_scheme a ≡ true → has_scheme (a ++ b) ≡ true
scheme_append [] b h = absurd (false≢true h)
scheme_append (x ∷ a) b h =
    let both = and_parts (is_ascii_alphabetic x) (goes_on (x ∷ a)) (sym (scheme_is (x ∷ a)) ∙ h) in
    scheme_is (x ∷ (a ++ b)) ∙ and_from (is_ascii_alphabetic x) (goes_on (x ∷ (a ++ b))) both.0 (goes_append (x ∷ a) b both.1)

pub joined_iri : (iri part : List ℕ) → IsIri iri → IsUtf8 part → has_excluded part ≡ false → IsIri (iri ++ part)
joined_iri iri part i u p = record {
  utf8 = IsUtf8-append iri part i.utf8 u;
  scheme = scheme_append iri part i.scheme;
  allowed = plain_from (iri ++ part) (plain_append iri part (plain_to iri i.allowed) (plain_to part p));
}

-- the characters of an IRI
abbrev low_test : ℕ → Bool
low_test c = (is_excluded c) || (within iri_chars c)

low_all : all_below 128 low_test ≡ true
low_all = refl

low_within : (c : ℕ) → c < 128 → is_excluded c ≡ false → within iri_chars c ≡ true
low_within c low e = sym (ap (λ b. b || within iri_chars c) e) ∙ below_at 128 low_test c low_all low

high_within : (c : ℕ) → 128 ≤ c → c < 1114112 → within iri_chars c ≡ true
high_within c h k = grind (arith, nat_tests, h, k)

allowed_chars : (cs : List ℕ) → scalars cs ≡ true → AllPlain (encodes cs) → IriChars cs
allowed_chars [] s h = tt
allowed_chars (c ∷ cs) s h =
    let both = and_parts (scalar c) (scalars cs) s in
    let parts = plain_parts (encode c) (encodes cs) h in (
      elim (cases_lt c 128) [
        | inl low ↦ low_within c low (subst AllPlain (encode_ascii c low) parts.0).0
        | inr high ↦ high_within c high (small_scalar c both.0)
      ],
      allowed_chars cs both.1 parts.1,
    )

pub bytes_width : (cs : List ℕ) → length (encodes cs) ≡ width cs
bytes_width [] = refl
bytes_width (c ∷ cs) = omega (arith, length-append (encode c) (encodes cs), length-encode c, bytes_width cs)

pub good_iri : (text : List ℕ) → IsIri text → length text + 2 ≤ 65536 → GoodIri text
good_iri text i narrow =
    let cs : List ℕ = i.utf8.0 in
    let is : encodes cs ≡ text = i.utf8.1.1 in
    record {
      chars = cs;
      is = sym is;
      good = i.utf8.1.0;
      allowed = allowed_chars cs i.utf8.1.0 (subst AllPlain (sym is) (plain_to text i.allowed));
      scheme = i.scheme;
      narrow = omega (arith, narrow, bytes_width cs, ap length is);
    }

-- the IRIs that Turtle names
pub type_iri : IsIri rdf_type
unfolding rdf_type encode
type_iri = record { utf8 = (rdf_type, (refl, refl)); scheme = refl; allowed = refl }

pub first_iri : IsIri rdf_first
unfolding rdf_first encode
first_iri = record { utf8 = (rdf_first, (refl, refl)); scheme = refl; allowed = refl }

pub rest_iri : IsIri rdf_rest
unfolding rdf_rest encode
rest_iri = record { utf8 = (rdf_rest, (refl, refl)); scheme = refl; allowed = refl }

pub nil_iri : IsIri rdf_nil
unfolding rdf_nil encode
nil_iri = record { utf8 = (rdf_nil, (refl, refl)); scheme = refl; allowed = refl }

pub integer_iri : IsIri xsd_integer
unfolding xsd_integer encode
integer_iri = record { utf8 = (xsd_integer, (refl, refl)); scheme = refl; allowed = refl }

pub decimal_iri : IsIri xsd_decimal
unfolding xsd_decimal encode
decimal_iri = record { utf8 = (xsd_decimal, (refl, refl)); scheme = refl; allowed = refl }

pub double_iri : IsIri xsd_double
unfolding xsd_double encode
double_iri = record { utf8 = (xsd_double, (refl, refl)); scheme = refl; allowed = refl }

pub boolean_iri : IsIri xsd_boolean
unfolding xsd_boolean encode
boolean_iri = record { utf8 = (xsd_boolean, (refl, refl)); scheme = refl; allowed = refl }
