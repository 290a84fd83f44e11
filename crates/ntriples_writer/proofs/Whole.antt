-- The texts of names are UTF-8, and so is a line.
use Rattle.std.proofs.Common.{ℕ, List, [], ◌∷◌, ◌++◌, ◌≡◌, ◌≤◌, ◌<◌, length, refl, ap, sym, ◌∙◌, subst, arith, inl, inr, append_assoc, append-nil}
use Rattle.std.proofs.lemmas.Str.{IsUtf8-append, IsUtf8-nil, IsUtf8-encode, encode_ascii, IsUtf8-from_ascii}
use Rattle.std.proofs.lemmas.Bool.Decides.{nat_tests}
use Rattle.std.proofs.lemmas.Bool.{cond_both, and_parts, cases_lt, cond-true, cond-false, le-ltb}
use Rattle.std.specs.Prelude.{true, false, length, nat_lt, ◌==◌, None, Some, codes, Result, Ok, Err, OnOk}
use Rattle.std.specs.Str.{IsUtf8, IsAscii}
use lib.Utf8.{scalar, scalars, encode, encodes, low_scalar}
use Rattle.rdf_terms.specs.declared.terms.Literal.{Literal}
use Rattle.rdf_terms.specs.declared.terms.Triple.{Triple}
use Rattle.rdf_terms.specs.Naming.{NameLists}
use Rattle.ntriples_writer.specs.Lines.{escape_letter, escape_by, escaped, is_xsd_string, iri_text, datatype_text, ending_text, literal_text, term_text, canonical_line}

abbrev pub AllLow : List ℕ → Type 0
AllLow [] = Unit {0}
AllLow (b ∷ bytes) = (b < 128) × AllLow bytes

pub low_utf8 : (bytes : List ℕ) → AllLow bytes → IsUtf8 bytes
low_utf8 [] h = IsUtf8-nil
low_utf8 (b ∷ bytes) h = IsUtf8-append (b ∷ []) bytes (subst IsUtf8 (encode_ascii b h.0) (IsUtf8-encode b (low_scalar b (omega (arith, h.0))))) (low_utf8 bytes h.1)

pub iri_utf8 : (iri : List ℕ) → IsUtf8 iri → IsUtf8 (iri_text iri)
iri_utf8 iri u = IsUtf8-append (codes "<") (iri ++ codes ">") (low_utf8 (codes "<") (omega arith, tt)) (IsUtf8-append iri (codes ">") u (low_utf8 (codes ">") (omega arith, tt)))

pub datatype_utf8 : (datatype : List ℕ) → IsUtf8 (iri_text datatype) → IsUtf8 (datatype_text datatype)
datatype_utf8 datatype u = cond_both (is_xsd_string datatype) [] (codes "^^" ++ iri_text datatype) IsUtf8 (λ e. IsUtf8-nil)
    (λ e. IsUtf8-append (codes "^^") (iri_text datatype) (low_utf8 (codes "^^") (omega arith, (omega arith, tt))) u)

pub tag_utf8 : (l : Literal) → IsUtf8 l.tag → (length l.tag == 0) ≡ false → IsUtf8 (ending_text l)
tag_utf8 l tag some = subst IsUtf8 (sym (cond-false (length l.tag == 0) (datatype_text l.datatype) (codes "@" ++ l.tag) some))
    (IsUtf8-append (codes "@") l.tag (low_utf8 (codes "@") (omega arith, tt)) tag)

pub no_tag_utf8 : (l : Literal) → IsUtf8 (datatype_text l.datatype) → (length l.tag == 0) ≡ true → IsUtf8 (ending_text l)
no_tag_utf8 l datatype none = subst IsUtf8 (sym (cond-true (length l.tag == 0) (datatype_text l.datatype) (codes "@" ++ l.tag) none)) datatype

-- bytes that are not ASCII need no escape
high_escape : (b : ℕ) → 128 ≤ b → escape_letter b ≡ None
high_escape b h = grind (arith, nat_tests)

abbrev AllHigh : List ℕ → Type 0
AllHigh [] = Unit {0}
AllHigh (b ∷ bytes) = (128 ≤ b) × AllHigh bytes

escaped_append : (a b : List ℕ) → escaped (a ++ b) ≡ escaped a ++ escaped b
escaped_append [] b = refl
escaped_append (x ∷ a) b = ap (λ s. escape_by x (escape_letter x) ++ s) (escaped_append a b) ∙ sym (append_assoc (escape_by x (escape_letter x)) (escaped a) (escaped b))

high_same : (bytes : List ℕ) → AllHigh bytes → escaped bytes ≡ bytes
high_same [] h = refl
high_same (b ∷ bytes) h = ap (λ o. escape_by b o ++ escaped bytes) (high_escape b h.0) ∙ ap (λ s. b ∷ s) (high_same bytes h.1)

low_escape : (b : ℕ) → b < 128 → AllLow (escape_by b (escape_letter b))
low_escape b h = cond_both (b == 0x22) (Some 0x22) _ (λ o. AllLow (escape_by b o)) (λ e. (omega arith, (omega arith, tt))) (λ _.
    cond_both (b == 0x5C) (Some 0x5C) _ (λ o. AllLow (escape_by b o)) (λ e. (omega arith, (omega arith, tt))) (λ _.
    cond_both (b == 0xA) (Some 0x6E) _ (λ o. AllLow (escape_by b o)) (λ e. (omega arith, (omega arith, tt))) (λ _.
    cond_both (b == 0xD) (Some 0x72) None (λ o. AllLow (escape_by b o)) (λ e. (omega arith, (omega arith, tt))) (λ _. (h, tt)))))

high_bytes : (c : ℕ) → 128 ≤ c → AllHigh (encode c)
unfolding encode
high_bytes c h =
    subst AllHigh (sym (cond-false (nat_lt c 128) (c ∷ []) _ (le-ltb c 128 h)))
    (cond_both (nat_lt c 2048) _ _ AllHigh (λ e. (omega arith, (omega arith, tt))) (λ _.
    cond_both (nat_lt c 65536) _ _ AllHigh (λ e. (omega arith, (omega arith, (omega arith, tt)))) (λ _. (omega arith, (omega arith, (omega arith, (omega arith, tt)))))))

char_utf8 : (c : ℕ) → scalar c ≡ true → IsUtf8 (escaped (encode c))
char_utf8 c good = elim (cases_lt c 128) [
  | inl low ↦ subst (λ x. IsUtf8 (escaped x)) (sym (encode_ascii c low)) (subst IsUtf8 (sym (append-nil (escape_by c (escape_letter c)))) (low_utf8 (escape_by c (escape_letter c)) (low_escape c low)))
  | inr high ↦ subst IsUtf8 (sym (high_same (encode c) (high_bytes c high))) (IsUtf8-encode c good)
]

chars_utf8 : (chars : List ℕ) → scalars chars ≡ true → IsUtf8 (escaped (encodes chars))
chars_utf8 [] h = IsUtf8-nil
chars_utf8 (c ∷ chars) h =
    let both = and_parts (scalar c) (scalars chars) h in
    subst IsUtf8 (sym (escaped_append (encode c) (encodes chars))) (IsUtf8-append (escaped (encode c)) (escaped (encodes chars)) (char_utf8 c both.0) (chars_utf8 chars both.1))

escaped_utf8 : (text : List ℕ) → IsUtf8 text → IsUtf8 (escaped text)
escaped_utf8 text u = subst (λ x. IsUtf8 (escaped x)) u.1.1 (chars_utf8 u.0 u.1.0)

pub literal_utf8 : (l : Literal) → IsUtf8 l.lexical → IsUtf8 (ending_text l) → IsUtf8 (literal_text l)
literal_utf8 l lexical ending =
    let mark = low_utf8 (codes "\"") (omega arith, tt) in
    IsUtf8-append (codes "\"") (escaped l.lexical ++ (codes "\"" ++ ending_text l)) mark
    (IsUtf8-append (escaped l.lexical) (codes "\"" ++ ending_text l) (escaped_utf8 l.lexical lexical) (IsUtf8-append (codes "\"") (ending_text l) mark ending))

pub line_utf8 : (names : NameLists) (t : Triple) → IsUtf8 (term_text names t.s) → IsUtf8 (term_text names t.p) → IsUtf8 (term_text names t.o) → IsUtf8 (canonical_line names t)
unfolding canonical_line
line_utf8 names t s p o =
    let space = low_utf8 (codes " ") (omega arith, tt) in
    let end = low_utf8 (codes " .\n") (omega arith, (omega arith, (omega arith, tt))) in
    IsUtf8-append (term_text names t.s) (codes " " ++ (term_text names t.p ++ (codes " " ++ (term_text names t.o ++ codes " .\n")))) s
    (IsUtf8-append (codes " ") (term_text names t.p ++ (codes " " ++ (term_text names t.o ++ codes " .\n"))) space
    (IsUtf8-append (term_text names t.p) (codes " " ++ (term_text names t.o ++ codes " .\n")) p
    (IsUtf8-append (codes " ") (term_text names t.o ++ codes " .\n") space (IsUtf8-append (term_text names t.o) (codes " .\n") o end))))

pub blank_utf8 : (digits : List ℕ) → IsAscii digits → IsUtf8 (codes "_:b" ++ digits)
blank_utf8 digits a = IsUtf8-append (codes "_:b") digits (low_utf8 (codes "_:b") (omega arith, (omega arith, (omega arith, tt)))) (IsUtf8-from_ascii digits a)

pub on_ok : {T E : Type 0} (r : Result T E) (X : Type 0) → X → OnOk r X
on_ok (Ok v) X x = x
on_ok (Err e) X x = tt

pub on_ok_map : {T E : Type 0} (r : Result T E) (X Y : Type 0) → (X → Y) → OnOk r X → OnOk r Y
on_ok_map (Ok v) X Y f x = f x
on_ok_map (Err e) X Y f x = tt
