-- The characters of canonical tokens: how the machine reads them, what they stand for, and their bytes.
use Rattle.std.proofs.Common.{ℕ, List, [], ◌∷◌, ◌++◌, ◌≡◌, ◌<◌, ◌≤◌, ◌+◌, ◌-◌, ◌==◌, Bool, true, false, cond, nat_lt, is_none, length, take, drop, refl, ap, ap₂, sym, ◌∙◌, subst, arith, inl, inr, append_assoc, append-nil}
use Rattle.std.proofs.lemmas.Bool.{false≢true, cases_lt, cond_both, cond-true, cond-false, le-ltb, lt-ltb, ltb-true, eqb-true, and_parts, and_from, false_from_ne_true}
use Rattle.std.proofs.lemmas.Bool.Decides.{nat_tests}
use Rattle.std.proofs.lemmas.Str.{encode_ascii, encodes-append, encodes_same}
use Rattle.std.proofs.lemmas.List.{take-append-le}
use Rattle.std.proofs.Math.Seq.{take-length}
use Rattle.std.specs.Prelude.{Option, None, Some}
use Rattle.std.specs.Char.{digit_value}
use Rattle.std.specs.Str.Parse.{AllDigits}
use lib.Utf8.{scalar, scalars, encode, encodes, low_scalar, scalar_cases}
use Rattle.text_patterns.specs.Patterns.{within}
use Rattle.text_patterns.proofs.Spans.{all_below, below_at}
use Rattle.rdf_chars.specs.Steps.{start}
use Rattle.rdf_chars.specs.Decoding.{Decoded, decoded, AreBytes, Decodes}
use Rattle.rdf_chars.specs.Decoding.Decoded.{Chars, BadAt}
use Rattle.rdf_chars.proofs.Whole.{decoded_right}
use Rattle.ntriples_tokens.specs.declared.states.State.{State}
use Rattle.ntriples_tokens.specs.declared.states.State.TheVariants as state
use Rattle.ntriples_tokens.specs.Steps.{next, class_at, labels, inside}
use Rattle.rdf_reading.specs.Values.{iri_chars}
use Rattle.rdf_reading.specs.Values as values
use Rattle.ntriples_writer.specs.Lines.{escape_letter, escape_by, escaped}
use Rattle.ntriples_laws.proofs.Reading.{states, states_append}
use Rattle.ntriples_laws.proofs.Meaning.{meaning}

abbrev pub IriChars : List ℕ → Type 0
IriChars [] = Unit {0}
IriChars (c ∷ cs) = (within iri_chars c ≡ true) × IriChars cs

abbrev pub AllLow : List ℕ → Type 0
AllLow [] = Unit {0}
AllLow (c ∷ cs) = (c < 128) × AllLow cs

pub not_below : (c : ℕ) → 128 ≤ c → nat_lt c 128 ≡ true → ⊥
not_below c h e = omega (arith, ltb-true c 128 e, h)

-- an IRI's character leaves the state as it is
pub is_iri_state : Option State → Bool
is_iri_state (Some state.Iri) = true
is_iri_state _ = false

pub iri_state : (o : Option State) → is_iri_state o ≡ true → o ≡ Some state.Iri
unfolding is_iri_state
iri_state (Some state.Iri) h = refl
iri_state _ h = absurd (false≢true h)

abbrev pub iri_test : ℕ → Bool
iri_test c = cond (within iri_chars c) (is_iri_state (next state.Iri (class_at c))) true

pub iri_low : all_below 128 iri_test ≡ true
unfolding is_iri_state
iri_low = refl

pub iri_stays : (c : ℕ) → within iri_chars c ≡ true → next state.Iri (class_at c) ≡ Some state.Iri
iri_stays c w = elim (cases_lt c 128) [
  | inl low ↦ iri_state (next state.Iri (class_at c)) (sym (cond-true (within iri_chars c) (is_iri_state (next state.Iri (class_at c))) true w) ∙ below_at 128 iri_test c iri_low low)
  | inr high ↦ cond_both (nat_lt c 128) _ _ (λ k. next state.Iri k ≡ Some state.Iri) (λ e. absurd (not_below c high e)) (λ _.
      cond_both (within labels c) _ _ (λ k. next state.Iri k ≡ Some state.Iri) (λ _. refl) (λ _. cond_both (within inside c) _ _ (λ k. next state.Iri k ≡ Some state.Iri) (λ _. refl) (λ _. refl)))
]

pub iri_run : (cs rest : List ℕ) → IriChars cs → states (Some state.Iri) (cs ++ rest) ≡ states (Some state.Iri) rest
iri_run [] rest h = refl
iri_run (c ∷ cs) rest h = ap (λ o. states o (cs ++ rest)) (iri_stays c h.0) ∙ iri_run cs rest h.1

abbrev pub iri_token : List ℕ → List ℕ
iri_token cs = 0x3C ∷ (cs ++ 0x3E ∷ [])

pub iri_token_run : (cs : List ℕ) → IriChars cs → states (Some state.Start) (iri_token cs) ≡ Some state.IriEnd
iri_token_run cs h = iri_run cs (0x3E ∷ []) h

-- a text's characters
pub is_text_state : Option State → Bool
is_text_state (Some state.InText) = true
is_text_state _ = false

pub text_state : (o : Option State) → is_text_state o ≡ true → o ≡ Some state.InText
unfolding is_text_state
text_state (Some state.InText) h = refl
text_state _ h = absurd (false≢true h)

abbrev pub text_test : ℕ → Bool
text_test c = cond (is_none (escape_letter c)) (is_text_state (next state.InText (class_at c))) true

pub text_low : all_below 128 text_test ≡ true
unfolding is_text_state
text_low = refl

pub text_stays : (c : ℕ) → escape_letter c ≡ None → next state.InText (class_at c) ≡ Some state.InText
text_stays c e = elim (cases_lt c 128) [
  | inl low ↦ text_state (next state.InText (class_at c)) (sym (cond-true (is_none (escape_letter c)) (is_text_state (next state.InText (class_at c))) true (ap is_none e)) ∙ below_at 128 text_test c text_low low)
  | inr high ↦ cond_both (nat_lt c 128) _ _ (λ k. next state.InText k ≡ Some state.InText) (λ e. absurd (not_below c high e)) (λ _.
      cond_both (within labels c) _ _ (λ k. next state.InText k ≡ Some state.InText) (λ _. refl) (λ _. cond_both (within inside c) _ _ (λ k. next state.InText k ≡ Some state.InText) (λ _. refl) (λ _. refl)))
]

-- an escape by its letter, by cases
pub escape_cases : (c : ℕ) (P : Option ℕ → Type 0) → (c ≡ 0x22 → P (Some 0x22)) → (c ≡ 0x5C → P (Some 0x5C)) → (c ≡ 0xA → P (Some 0x6E)) → (c ≡ 0xD → P (Some 0x72))
    → ((c == 0x5C) ≡ false → escape_letter c ≡ None → P None) → P (escape_letter c)
escape_cases c P p q r s t = cond_both (c == 0x22) (Some 0x22) _ P (λ e. p (eqb-true c 0x22 e)) (λ e.
    cond_both (c == 0x5C) (Some 0x5C) _ P (λ f. q (eqb-true c 0x5C f)) (λ f.
    cond_both (c == 0xA) (Some 0x6E) _ P (λ g. r (eqb-true c 0xA g)) (λ g.
    cond_both (c == 0xD) (Some 0x72) None P (λ h. s (eqb-true c 0xD h)) (λ h. t f
    (cond-false (c == 0x22) (Some 0x22) _ e ∙ cond-false (c == 0x5C) (Some 0x5C) _ f ∙ cond-false (c == 0xA) (Some 0x6E) _ g ∙ cond-false (c == 0xD) (Some 0x72) None h)))))

pub escape_run : (c : ℕ) → states (Some state.InText) (escape_by c (escape_letter c)) ≡ Some state.InText
escape_run c = escape_cases c (λ o. states (Some state.InText) (escape_by c o) ≡ Some state.InText) (λ e. refl) (λ e. refl) (λ e. refl) (λ e. refl) (λ e f. text_stays c f)

pub text_run : (cs rest : List ℕ) → states (Some state.InText) (escaped cs ++ rest) ≡ states (Some state.InText) rest
text_run [] rest = refl
text_run (c ∷ cs) rest = ap (states (Some state.InText)) (append_assoc (escape_by c (escape_letter c)) (escaped cs) rest)
    ∙ states_append (Some state.InText) (escape_by c (escape_letter c)) (escaped cs ++ rest) ∙ ap (λ o. states o (escaped cs ++ rest)) (escape_run c) ∙ text_run cs rest

abbrev pub text_token : List ℕ → List ℕ
text_token cs = 0x22 ∷ (escaped cs ++ 0x22 ∷ [])

pub text_token_run : (cs : List ℕ) → states (Some state.Start) (text_token cs) ≡ Some state.TextEnd
text_token_run cs = text_run cs (0x22 ∷ [])

-- digits of a label
pub is_label_state : Option State → Bool
is_label_state (Some state.BlankLabel) = true
is_label_state _ = false

pub label_state : (o : Option State) → is_label_state o ≡ true → o ≡ Some state.BlankLabel
unfolding is_label_state
label_state (Some state.BlankLabel) h = refl
label_state _ h = absurd (false≢true h)

abbrev pub label_test : ℕ → Bool
label_test c = cond (nat_lt (digit_value c) 10) (is_label_state (next state.BlankLabel (class_at c))) true

pub label_low : all_below 128 label_test ≡ true
unfolding is_label_state
label_low = refl

pub digit_low : (c : ℕ) → digit_value c < 10 → c < 128
digit_low c h = elim (cases_lt c 128) [
  | inl low ↦ low
  | inr high ↦ let e : digit_value c ≡ 36 = grind (arith, nat_tests, high) in absurd (omega (arith, e, h))
]

pub label_stays : (c : ℕ) → digit_value c < 10 → next state.BlankLabel (class_at c) ≡ Some state.BlankLabel
label_stays c h = label_state (next state.BlankLabel (class_at c))
    (sym (cond-true (nat_lt (digit_value c) 10) (is_label_state (next state.BlankLabel (class_at c))) true (lt-ltb (digit_value c) 10 h)) ∙ below_at 128 label_test c label_low (digit_low c h))

pub digits_run : (ds : List ℕ) → AllDigits 10 ds → states (Some state.BlankLabel) ds ≡ Some state.BlankLabel
digits_run [] h = refl
digits_run (c ∷ ds) h = ap (λ o. states o ds) (label_stays c h.0) ∙ digits_run ds h.1

pub digits_low : (ds : List ℕ) → AllDigits 10 ds → AllLow ds
digits_low [] h = tt
digits_low (c ∷ ds) h = (digit_low c h.0, digits_low ds h.1)

pub label_token_run : (ds : List ℕ) → AllDigits 10 ds → states (Some state.Start) (0x5F ∷ 0x3A ∷ 0x62 ∷ ds) ≡ Some state.BlankLabel
label_token_run ds h = digits_run ds h

-- what the characters stand for
pub text_one : (c : ℕ) (rest : List ℕ) → meaning.value (escape_by c (escape_letter c) ++ rest) ≡ c ∷ meaning.value rest
text_one c rest = escape_cases c (λ o. meaning.value (escape_by c o ++ rest) ≡ c ∷ meaning.value rest)
    (λ e. meaning.letter 0x22 rest refl refl ∙ ap (λ x. x ∷ meaning.value rest) (sym e)) (λ e. meaning.letter 0x5C rest refl refl ∙ ap (λ x. x ∷ meaning.value rest) (sym e))
    (λ e. meaning.letter 0x6E rest refl refl ∙ ap (λ x. x ∷ meaning.value rest) (sym e)) (λ e. meaning.letter 0x72 rest refl refl ∙ ap (λ x. x ∷ meaning.value rest) (sym e))
    (λ e f. meaning.char c rest e)

pub text_value : (cs : List ℕ) → meaning.value (escaped cs) ≡ cs
text_value [] = meaning.none
text_value (c ∷ cs) = text_one c (escaped cs) ∙ ap (λ x. c ∷ x) (text_value cs)

pub not_slash : (c : ℕ) → within iri_chars c ≡ true → (c == 0x5C) ≡ false
not_slash c w = false_from_ne_true (c == 0x5C) (λ e. false≢true (ap (within iri_chars) (sym (eqb-true c 0x5C e)) ∙ w))

pub iri_value : (cs : List ℕ) → IriChars cs → meaning.value cs ≡ cs
iri_value [] h = meaning.none
iri_value (c ∷ cs) h = meaning.char c cs (not_slash c h.0) ∙ ap (λ x. c ∷ x) (iri_value cs h.1)

pub iri_not_bad : (cs : List ℕ) → IriChars cs → meaning.bad cs ≡ false
iri_not_bad [] h = meaning.none_bad
iri_not_bad (c ∷ cs) h = meaning.char_bad c cs (not_slash c h.0) ∙ iri_not_bad cs h.1

pub inside_is : (a b : ℕ) (cs : List ℕ) → values.inside 1 (a ∷ (cs ++ b ∷ [])) ≡ cs
inside_is a b cs =
    let few : length (a ∷ (cs ++ b ∷ [])) - 1 ≡ length (a ∷ cs) = omega (arith, length_push cs b) in
    ap (λ n. drop 1 (take n (a ∷ (cs ++ b ∷ [])))) few ∙ ap (drop 1) (take-append-le (length (a ∷ cs)) (a ∷ cs) (b ∷ []) (omega arith) ∙ take-length (a ∷ cs))
  where
    length_push : (cs : List ℕ) (b : ℕ) → length (cs ++ b ∷ []) ≡ length cs + 1
    length_push [] b = refl
    length_push (c ∷ cs) b = omega (arith, length_push cs b)

-- bytes
pub low_encodes : (s : List ℕ) → AllLow s → encodes s ≡ s
low_encodes [] h = refl
low_encodes (c ∷ s) h = ap₂ (λ x y. x ++ y) (encode_ascii c h.0) (low_encodes s h.1)

pub low_scalars : (s : List ℕ) → AllLow s → scalars s ≡ true
low_scalars [] h = refl
low_scalars (c ∷ s) h = and_from (scalar c) (scalars s) (low_scalar c (omega (arith, h.0))) (low_scalars s h.1)

pub scalars_append : (a b : List ℕ) → scalars a ≡ true → scalars b ≡ true → scalars (a ++ b) ≡ true
scalars_append [] b h k = k
scalars_append (c ∷ a) b h k = let both = and_parts (scalar c) (scalars a) h in and_from (scalar c) (scalars (a ++ b)) both.0 (scalars_append a b both.1 k)

pub escape_low : (c : ℕ) → c < 128 → AllLow (escape_by c (escape_letter c))
escape_low c h = escape_cases c (λ o. AllLow (escape_by c o)) (λ e. (omega arith, (omega arith, tt))) (λ e. (omega arith, (omega arith, tt))) (λ e. (omega arith, (omega arith, tt))) (λ e. (omega arith, (omega arith, tt)))
    (λ e f. (h, tt))

pub escape_scalars : (c : ℕ) → scalar c ≡ true → scalars (escape_by c (escape_letter c)) ≡ true
escape_scalars c h = escape_cases c (λ o. scalars (escape_by c o) ≡ true) (λ e. refl) (λ e. refl) (λ e. refl) (λ e. refl) (λ e f. and_from (scalar c) true h refl)

pub escaped_scalars : (cs : List ℕ) → scalars cs ≡ true → scalars (escaped cs) ≡ true
escaped_scalars [] h = refl
escaped_scalars (c ∷ cs) h = let both = and_parts (scalar c) (scalars cs) h in
    scalars_append (escape_by c (escape_letter c)) (escaped cs) (escape_scalars c both.0) (escaped_scalars cs both.1)

abbrev pub AllHigh : List ℕ → Type 0
AllHigh [] = Unit {0}
AllHigh (b ∷ bytes) = (128 ≤ b) × AllHigh bytes

pub high_escape : (b : ℕ) → 128 ≤ b → escape_letter b ≡ None
high_escape b h = grind (arith, nat_tests)

pub high_same : (bytes : List ℕ) → AllHigh bytes → escaped bytes ≡ bytes
high_same [] h = refl
high_same (b ∷ bytes) h = ap (λ o. escape_by b o ++ escaped bytes) (high_escape b h.0) ∙ ap (λ s. b ∷ s) (high_same bytes h.1)

pub high_bytes : (c : ℕ) → 128 ≤ c → AllHigh (encode c)
unfolding encode
high_bytes c h =
    subst AllHigh (sym (cond-false (nat_lt c 128) (c ∷ []) _ (le-ltb c 128 h)))
    (cond_both (nat_lt c 2048) _ _ AllHigh (λ e. (omega arith, (omega arith, tt))) (λ _.
    cond_both (nat_lt c 65536) _ _ AllHigh (λ e. (omega arith, (omega arith, (omega arith, tt)))) (λ _. (omega arith, (omega arith, (omega arith, (omega arith, tt)))))))

pub escaped_append : (a b : List ℕ) → escaped (a ++ b) ≡ escaped a ++ escaped b
escaped_append [] b = refl
escaped_append (x ∷ a) b = ap (λ s. escape_by x (escape_letter x) ++ s) (escaped_append a b) ∙ sym (append_assoc (escape_by x (escape_letter x)) (escaped a) (escaped b))

pub escaped_one : (c : ℕ) → escaped (encode c) ≡ encodes (escape_by c (escape_letter c))
escaped_one c = elim (cases_lt c 128) [
  | inl low ↦ ap escaped (encode_ascii c low) ∙ append-nil (escape_by c (escape_letter c)) ∙ sym (low_encodes (escape_by c (escape_letter c)) (escape_low c low))
  | inr high ↦ high_same (encode c) (high_bytes c high) ∙ sym (append-nil (encode c)) ∙ ap (λ o. encodes (escape_by c o)) (sym (high_escape c high))
]

pub escaped_bytes : (cs : List ℕ) → escaped (encodes cs) ≡ encodes (escaped cs)
escaped_bytes [] = refl
escaped_bytes (c ∷ cs) = escaped_append (encode c) (encodes cs) ∙ ap₂ (λ x y. x ++ y) (escaped_one c) (escaped_bytes cs) ∙ sym (encodes-append (escape_by c (escape_letter c)) (escaped cs))

pub bytes_append : (a b : List ℕ) → AreBytes a → AreBytes b → AreBytes (a ++ b)
bytes_append [] b h k = k
bytes_append (c ∷ a) b h k = (h.0, bytes_append a b h.1 k)

pub small_scalar : (c : ℕ) → scalar c ≡ true → c < 1114112
small_scalar c h = elim (scalar_cases c h) [ inl l ↦ omega (arith, l) | inr r ↦ r.1 ]

pub encode_bytes : (c : ℕ) → c < 1114112 → AreBytes (encode c)
unfolding encode
encode_bytes c h =
    cond_both (nat_lt c 128) _ _ AreBytes (λ e. (omega (arith, ltb-true c 128 e), tt)) (λ _.
    cond_both (nat_lt c 2048) _ _ AreBytes (λ e. (omega (arith, ltb-true c 2048 e), (omega arith, tt))) (λ _.
    cond_both (nat_lt c 65536) _ _ AreBytes (λ e. (omega (arith, ltb-true c 65536 e), (omega arith, (omega arith, tt)))) (λ _. (omega (arith, h), (omega arith, (omega arith, (omega arith, tt)))))))

pub encodes_bytes : (cs : List ℕ) → scalars cs ≡ true → AreBytes (encodes cs)
encodes_bytes [] h = tt
encodes_bytes (c ∷ cs) h = let both = and_parts (scalar c) (scalars cs) h in bytes_append (encode c) (encodes cs) (encode_bytes c (small_scalar c both.0)) (encodes_bytes cs both.1)

-- characters are read back from their bytes
pub decoded_chars : (cs : List ℕ) → scalars cs ≡ true → decoded start (encodes cs) ≡ Chars cs
decoded_chars cs h = by (decoded start (encodes cs)) (decoded_right (encodes cs) (encodes_bytes cs h))
  where
    by : (d : Decoded) → Decodes (encodes cs) d → d ≡ Chars cs
    by (Chars ds) r = ap Chars (encodes_same ds cs r.1)
    by (BadAt place) r = absurd (r.0 (cs, (h, refl)))
