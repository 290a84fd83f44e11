-- The terms of a canonical line, as the reader takes them.
use Rattle.std.proofs.Common.{ℕ, List, [], ◌∷◌, ◌++◌, ◌≡◌, ◌<◌, ◌≤◌, ◌+◌, ◌^◌, ◌==◌, true, false, cond, length, slice_get, unwrap_or, codes, decimal, refl, ap, ap₂, sym, ◌∙◌, arith, inl, inr, append_assoc}
use Rattle.std.proofs.lemmas.Bool.{cases_Bool, cond-true, cond-false, and_from, ne_eqb}
use Rattle.std.proofs.lemmas.Str.{encode_ascii, encodes-append}
use Rattle.std.proofs.lemmas.Fmt.{decimal_is_IsNumeral, length-decimal-le}
use Rattle.std.specs.Prelude.{Option, None, Some}
use Rattle.std.specs.Str.Parse.{AllDigits}
use lib.Utf8.{scalar, scalars, encodes, low_scalar}
use Rattle.iri_resolve.specs.Splitting.{has_scheme}
use Rattle.rdf_terms.specs.declared.terms.Code.TheVariants.{G5, G6}
use Rattle.rdf_terms.specs.declared.terms.Literal.{Literal}
use Rattle.rdf_terms.specs.declared.terms.Term.{Term}
use Rattle.rdf_terms.specs.declared.terms.Term.TheVariants as term
use Rattle.rdf_terms.specs.Naming.{NameLists}
use Rattle.ntriples_tokens.specs.declared.kinds.Kind.{Kind}
use Rattle.ntriples_tokens.specs.declared.kinds.Kind.TheVariants as kind
use Rattle.token_scanner.specs.declared.place.Place.TheVariants.{Beginning, Between}
use Rattle.ntriples_tokens.specs.declared.states.State.{State}
use Rattle.ntriples_tokens.specs.declared.states.State.TheVariants as state
use Rattle.ntriples_tokens.specs.Steps.{next, accepts, class_at}
use Rattle.ntriples_tokens.specs.Scanning.{items}
use Rattle.token_scanner.specs.Items.Items.{Item}
use Rattle.token_scanner.specs.Widths.{width}
use Rattle.ntriples_reader.specs.declared.line.Expect.{Expect}
use Rattle.ntriples_reader.specs.declared.line.Expect.TheVariants as expect
use Rattle.ntriples_reader.specs.declared.line.Sort.{Sort}
use Rattle.ntriples_reader.specs.declared.line.Sort.TheVariants as sort
use Rattle.ntriples_reader.specs.declared.store.Held.{Held}
use Rattle.rdf_vocabulary.specs.Iris.{xsd_string, rdf_lang_string}
use Rattle.ntriples_reader.specs.Lines.{LineState, iri_code, line_after}
use Rattle.ntriples_reader.specs.Lines as lines
use Rattle.ntriples_reader.specs.Values.{value_text, label_text, tag_text}
use Rattle.rdf_reading.specs.Values as values
use Rattle.ntriples_reader.specs.Answers.{judge}
use Rattle.rdf_reading.specs.Answers.{by_code}
use Rattle.ntriples_writer.specs.Lines.{escaped, is_xsd_string, iri_text, datatype_text, ending_text, literal_or_none, term_text}
use Rattle.ntriples_laws.proofs.Labels.{label, bytes_same}
use Rattle.ntriples_laws.proofs.Stepping.{ShowsNode, some_same}
use Rattle.ntriples_laws.proofs.Reading.{Stops, item_is}
use Rattle.ntriples_laws.proofs.Meaning.{meaning}
use Rattle.ntriples_laws.proofs.Canon.{AllLow, iri_token, iri_token_run, text_token, text_token_run, label_token_run, digits_low, text_value, iri_value, iri_not_bad, inside_is, low_encodes, low_scalars, scalars_append, escaped_scalars, escaped_bytes}
use Rattle.ntriples_laws.proofs.Good.{GoodIri, GoodText, GoodTag, GoodLiteral, Ending}
use Rattle.ntriples_laws.proofs.Spelled.{low_width, inner_width}

-- a text between two marks
pub marked : (a b : ℕ) (s : List ℕ) → a < 128 → b < 128 → encodes (a ∷ (s ++ b ∷ [])) ≡ a ∷ (encodes s ++ b ∷ [])
marked a b s h k = ap₂ (λ x y. x ++ y) (encode_ascii a h) (encodes-append s (b ∷ []) ∙ ap (λ y. encodes s ++ y) (low_encodes (b ∷ []) (k, tt)))

pub marked_scalars : (a b : ℕ) (s : List ℕ) → a < 128 → b < 128 → scalars s ≡ true → scalars (a ∷ (s ++ b ∷ [])) ≡ true
marked_scalars a b s h k good = and_from (scalar a) (scalars (s ++ b ∷ [])) (low_scalar a (omega (arith, h))) (scalars_append s (b ∷ []) good (low_scalars (b ∷ []) (k, tt)))

-- an IRI in brackets
pub iri_bytes : (text : List ℕ) (g : GoodIri text) → iri_text text ≡ encodes (iri_token g.chars)
iri_bytes text g = ap iri_text g.is ∙ sym (marked 0x3C 0x3E g.chars (omega arith) (omega arith))

pub iri_scalars : (text : List ℕ) (g : GoodIri text) → scalars (iri_token g.chars) ≡ true
iri_scalars text g = marked_scalars 0x3C 0x3E g.chars (omega arith) (omega arith) g.good

pub iri_item : (text : List ℕ) (g : GoodIri text) (rest : List ℕ) (at : ℕ)
    → items Between 0 (iri_token g.chars ++ 0x20 ∷ rest) at ≡ Item kind.IriRef (iri_token g.chars) at (items Between 0 rest (at + width (iri_token g.chars) + 1))
iri_item text g rest at =
    let small : width g.chars + 2 ≤ 65536 = g.narrow in
    item_is kind.IriRef 0x3C (g.chars ++ 0x3E ∷ []) (0x20 ∷ rest) state.IriEnd at refl (iri_token_run g.chars g.allowed) refl
    (omega (arith, inner_width 0x3C 0x3E g.chars (omega arith) (omega arith), small)) refl

pub iri_is : (text : List ℕ) (g : GoodIri text) → value_text (iri_token g.chars) ≡ text
iri_is text g = meaning.text (iri_token g.chars) ∙ ap (λ s. encodes (meaning.value s)) (inside_is 0x3C 0x3E g.chars) ∙ ap encodes (iri_value g.chars g.allowed) ∙ sym g.is

pub iri_fine : (text : List ℕ) (g : GoodIri text) → iri_code (iri_token g.chars) ≡ None
iri_fine text g = meaning.code (iri_token g.chars)
    ∙ cond-false (meaning.bad (values.inside 1 (iri_token g.chars))) (Some G6) (cond (has_scheme (value_text (iri_token g.chars))) None (Some G5)) (ap meaning.bad (inside_is 0x3C 0x3E g.chars) ∙ iri_not_bad g.chars g.allowed)
    ∙ cond-true (has_scheme (value_text (iri_token g.chars))) None (Some G5) (ap has_scheme (iri_is text g) ∙ g.scheme)

-- what follows a line's end, and the beginning of a text
pub record Begun (text : List ℕ) : Type 0 where
  pub stops : Stops state.Lines text
  pub same : (at : ℕ) → items Beginning 0 text at ≡ items Between 0 text at

-- a line with its subject
abbrev pub with_subject : LineState → Sort → List ℕ → LineState
with_subject l so text = record l { expect = expect.Subject; subject_sort = so; subject = text }

pub record SubjectRead (names : NameLists) (t : Term) : Type 0 where
  pub chars : List ℕ
  pub bytes : term_text names t ≡ encodes chars
  pub good : scalars chars ≡ true
  pub so : Sort
  pub text : List ℕ
  pub shows : (l : LineState) → ShowsNode names t so text l
  pub begun : (rest : List ℕ) → Begun (chars ++ rest)
  pub after : ℕ → ℕ
  pub reads : (l : LineState) (h : Held) (rest : List ℕ) (at : ℕ)
      → judge (record l { expect = expect.Start }) h (items Between 0 (chars ++ 0x20 ∷ rest) at) ≡ judge (with_subject l so text) h (items Between 0 rest (after at))

pub iri_subject : (names : NameLists) (n : ℕ) (text : List ℕ) → slice_get names.iris n ≡ Some text → GoodIri text → SubjectRead names (term.Iri n)
iri_subject names n text e g = record {
  chars = iri_token g.chars;
  bytes = ap (λ o. iri_text (unwrap_or o [])) e ∙ iri_bytes text g;
  good = iri_scalars text g;
  so = sort.Iri;
  text = text;
  shows = λ l. (refl, e);
  begun = λ rest. record { stops = refl; same = λ at. refl };
  after = λ at. at + width (iri_token g.chars) + 1;
  reads = λ l h rest at. ap (judge (record l { expect = expect.Start }) h) (iri_item text g rest at)
      ∙ ap (λ o. by_code o at (judge (with_subject l sort.Iri (value_text (iri_token g.chars))) h (items Between 0 rest (at + width (iri_token g.chars) + 1)))) (iri_fine text g)
      ∙ ap (λ x. judge (with_subject l sort.Iri x) h (items Between 0 rest (at + width (iri_token g.chars) + 1))) (iri_is text g);
}

-- a blank node's label
abbrev pub label_token : ℕ → List ℕ
label_token n = 0x5F ∷ 0x3A ∷ label n

pub digits_of : (n : ℕ) → n < 2 ^ 64 → AllDigits 10 (decimal n)
digits_of n h = (decimal_is_IsNumeral n h).0.1

pub label_low : (n : ℕ) → n < 2 ^ 64 → AllLow (label_token n)
label_low n h = (omega arith, (omega arith, (omega arith, digits_low (decimal n) (digits_of n h))))

pub label_item : (n : ℕ) → n < 2 ^ 64 → (rest : List ℕ) (at : ℕ)
    → items Between 0 (label_token n ++ 0x20 ∷ rest) at ≡ Item kind.Blank (label_token n) at (items Between 0 rest (at + width (label_token n) + 1))
label_item n h rest at =
    let few : length (decimal n) ≤ 20 = length-decimal-le 20 n (omega arith) (omega (arith, h)) h in
    item_is kind.Blank 0x5F (0x3A ∷ label n) (0x20 ∷ rest) state.BlankLabel at refl (label_token_run (decimal n) (digits_of n h)) refl (omega (arith, low_width (label_token n) (label_low n h), few)) refl

pub label_is : (n : ℕ) → n < 2 ^ 64 → label_text (label_token n) ≡ label n
label_is n h = low_encodes (label n) (label_low n h).1.1

pub blank_subject : (names : NameLists) (n : ℕ) → n < 2 ^ 64 → SubjectRead names (term.Blank n)
blank_subject names n h = record {
  chars = label_token n;
  bytes = sym (low_encodes (label_token n) (label_low n h));
  good = low_scalars (label_token n) (label_low n h);
  so = sort.Blank;
  text = label n;
  shows = λ l. (refl, refl);
  begun = λ rest. record { stops = refl; same = λ at. refl };
  after = λ at. at + width (label_token n) + 1;
  reads = λ l w rest at. ap (judge (record l { expect = expect.Start }) w) (label_item n h rest at)
      ∙ ap (λ x. judge (with_subject l sort.Blank x) w (items Between 0 rest (at + width (label_token n) + 1))) (label_is n h);
}

-- a line with its predicate
abbrev pub with_verb : LineState → List ℕ → LineState
with_verb l text = record l { expect = expect.Predicate; predicate = text }

pub record VerbRead (names : NameLists) (t : Term) : Type 0 where
  pub chars : List ℕ
  pub bytes : term_text names t ≡ encodes chars
  pub good : scalars chars ≡ true
  pub text : List ℕ
  pub shows : (l : LineState) → ShowsNode names t sort.Iri text l
  pub after : ℕ → ℕ
  pub reads : (l : LineState) (h : Held) (rest : List ℕ) (at : ℕ)
      → judge (record l { expect = expect.Subject }) h (items Between 0 (chars ++ 0x20 ∷ rest) at) ≡ judge (with_verb l text) h (items Between 0 rest (after at))

pub iri_verb : (names : NameLists) (n : ℕ) (text : List ℕ) → slice_get names.iris n ≡ Some text → GoodIri text → VerbRead names (term.Iri n)
iri_verb names n text e g = record {
  chars = iri_token g.chars;
  bytes = ap (λ o. iri_text (unwrap_or o [])) e ∙ iri_bytes text g;
  good = iri_scalars text g;
  text = text;
  shows = λ l. (refl, e);
  after = λ at. at + width (iri_token g.chars) + 1;
  reads = λ l h rest at. ap (judge (record l { expect = expect.Subject }) h) (iri_item text g rest at)
      ∙ ap (λ o. by_code o at (judge (with_verb l (value_text (iri_token g.chars))) h (items Between 0 rest (at + width (iri_token g.chars) + 1)))) (iri_fine text g)
      ∙ ap (λ x. judge (with_verb l x) h (items Between 0 rest (at + width (iri_token g.chars) + 1))) (iri_is text g);
}

-- a line with its object
abbrev pub with_object : LineState → Expect → Sort → List ℕ → List ℕ → List ℕ → ℕ → LineState
with_object l e so text datatype tag at = record l { expect = e; object_sort = so; object = text; datatype = datatype; tag = tag; at = at }

pub record ObjectRead (names : NameLists) (t : Term) : Type 0 where
  pub chars : List ℕ
  pub bytes : term_text names t ≡ encodes chars
  pub good : scalars chars ≡ true
  pub expected : Expect
  pub dot : lines.next expected kind.Dot ≡ Some expect.End
  pub so : Sort
  pub text : List ℕ
  pub datatype : LineState → List ℕ
  pub tag : LineState → List ℕ
  pub shows : (l m : LineState) → m.datatype ≡ datatype l → m.tag ≡ tag l → ShowsNode names t so text m
  pub after : ℕ → ℕ
  pub reads : (l : LineState) (h : Held) (rest : List ℕ) (at : ℕ) → judge (record l { expect = expect.Predicate }) h (items Between 0 (chars ++ 0x20 ∷ rest) at)
      ≡ judge (with_object l expected so text (datatype l) (tag l) at) h (items Between 0 rest (after at))

pub iri_object : (names : NameLists) (n : ℕ) (text : List ℕ) → slice_get names.iris n ≡ Some text → GoodIri text → ObjectRead names (term.Iri n)
iri_object names n text e g = record {
  chars = iri_token g.chars;
  bytes = ap (λ o. iri_text (unwrap_or o [])) e ∙ iri_bytes text g;
  good = iri_scalars text g;
  expected = expect.Object;
  dot = refl;
  so = sort.Iri;
  text = text;
  datatype = λ l. l.datatype;
  tag = λ l. l.tag;
  shows = λ l m d t. (refl, e);
  after = λ at. at + width (iri_token g.chars) + 1;
  reads = λ l h rest at. ap (judge (record l { expect = expect.Predicate }) h) (iri_item text g rest at)
      ∙ ap (λ o. by_code o at (judge (with_object l expect.Object sort.Iri (value_text (iri_token g.chars)) l.datatype l.tag at) h (items Between 0 rest (at + width (iri_token g.chars) + 1)))) (iri_fine text g)
      ∙ ap (λ x. judge (with_object l expect.Object sort.Iri x l.datatype l.tag at) h (items Between 0 rest (at + width (iri_token g.chars) + 1))) (iri_is text g);
}

pub blank_object : (names : NameLists) (n : ℕ) → n < 2 ^ 64 → ObjectRead names (term.Blank n)
blank_object names n h = record {
  chars = label_token n;
  bytes = sym (low_encodes (label_token n) (label_low n h));
  good = low_scalars (label_token n) (label_low n h);
  expected = expect.Object;
  dot = refl;
  so = sort.Blank;
  text = label n;
  datatype = λ l. l.datatype;
  tag = λ l. l.tag;
  shows = λ l m d t. (refl, refl);
  after = λ at. at + width (label_token n) + 1;
  reads = λ l w rest at. ap (judge (record l { expect = expect.Predicate }) w) (label_item n h rest at)
      ∙ ap (λ x. judge (with_object l expect.Object sort.Blank x l.datatype l.tag at) w (items Between 0 rest (at + width (label_token n) + 1))) (label_is n h);
}

-- what stands behind a literal's quotation marks
pub record EndingRead (v : Literal) : Type 0 where
  pub chars : List ℕ
  pub bytes : ending_text v ≡ encodes chars
  pub good : scalars chars ≡ true
  pub expected : Expect
  pub dot : lines.next expected kind.Dot ≡ Some expect.End
  pub stops : (rest : List ℕ) → Stops state.TextEnd (chars ++ 0x20 ∷ rest)
  pub after : ℕ → ℕ
  pub reads : (l : LineState) (h : Held) (rest : List ℕ) (at : ℕ) → judge (record l { expect = expect.Quoted; datatype = xsd_string; tag = [] }) h (items Between 0 (chars ++ 0x20 ∷ rest) at)
      ≡ judge (record l { expect = expected; datatype = v.datatype; tag = v.tag }) h (items Between 0 rest (after at))

pub is_string : (datatype : List ℕ) → is_xsd_string datatype ≡ true → datatype ≡ xsd_string
is_string datatype h = bytes_same datatype xsd_string h

pub string_is : is_xsd_string xsd_string ≡ true
unfolding xsd_string
string_is = refl

pub no_tag : (v : Literal) → v.tag ≡ [] → ending_text v ≡ datatype_text v.datatype
no_tag v e = ap (λ t. cond (length t == 0) (datatype_text v.datatype) (codes "@" ++ t)) e

pub plain_ending : (v : Literal) → v.tag ≡ [] → is_xsd_string v.datatype ≡ true → EndingRead v
plain_ending v e x = record {
  chars = [];
  bytes = no_tag v e ∙ cond-true (is_xsd_string v.datatype) [] (codes "^^" ++ iri_text v.datatype) x;
  good = refl;
  expected = expect.Quoted;
  dot = refl;
  stops = λ rest. refl;
  after = λ at. at + 1;
  reads = λ l h rest at. ap₂ (λ d t. judge (record l { expect = expect.Quoted; datatype = d; tag = t }) h (items Between 0 rest (at + 1))) (sym (is_string v.datatype x)) (sym e);
}

pub typed_ending : (v : Literal) → v.tag ≡ [] → is_xsd_string v.datatype ≡ false → GoodIri v.datatype → EndingRead v
typed_ending v e x g = record {
  chars = 0x5E ∷ 0x5E ∷ iri_token g.chars;
  bytes = no_tag v e ∙ cond-false (is_xsd_string v.datatype) [] (codes "^^" ++ iri_text v.datatype) x ∙ ap (λ t. 0x5E ∷ 0x5E ∷ t) (iri_bytes v.datatype g)
      ∙ sym (ap₂ (λ a b. a ++ (b ++ encodes (iri_token g.chars))) (encode_ascii 0x5E (omega arith)) (encode_ascii 0x5E (omega arith)));
  good = iri_scalars v.datatype g;
  expected = expect.Object;
  dot = refl;
  stops = λ rest. refl;
  after = λ at. at + width (0x5E ∷ 0x5E ∷ []) + width (iri_token g.chars) + 1;
  reads = λ l h rest at.
      let far : ℕ = at + width (0x5E ∷ 0x5E ∷ []) in
      ap (judge (record l { expect = expect.Quoted; datatype = xsd_string; tag = [] }) h) (item_is kind.Carets 0x5E (0x5E ∷ []) (iri_token g.chars ++ 0x20 ∷ rest) state.CaretTwo at refl refl refl (omega arith) refl)
      ∙ ap (judge (record l { expect = expect.Typed; datatype = xsd_string; tag = [] }) h) (iri_item v.datatype g rest far)
      ∙ ap (λ o. by_code o far (judge (record l { expect = expect.Object; datatype = value_text (iri_token g.chars); tag = [] }) h (items Between 0 rest (far + width (iri_token g.chars) + 1)))) (iri_fine v.datatype g)
      ∙ ap₂ (λ d t. judge (record l { expect = expect.Object; datatype = d; tag = t }) h (items Between 0 rest (far + width (iri_token g.chars) + 1))) (iri_is v.datatype g) (sym e);
}

pub at_stops : (q : State) → accepts q ≡ Some kind.AtWord → next q (class_at 0x20) ≡ None
at_stops state.AtLetters h = refl
at_stops state.AtMore h = refl
at_stops _ h = absurd (cc h)

pub some_tag : (tag : List ℕ) → GoodTag tag → (length tag == 0) ≡ false
some_tag [] g = absurd (none_some (ap accepts (some_same state.AtStart g.run.last g.run.leads) ∙ g.run.accepts))
  where
    none_some : ◌≡◌ {A = Option Kind} None (Some kind.AtWord) → ⊥
    none_some e = cc e
some_tag (c ∷ tag) g = ne_eqb (length (c ∷ tag)) 0 (λ e. omega (arith, e))

pub tagged_ending : (v : Literal) → GoodTag v.tag → v.datatype ≡ rdf_lang_string → EndingRead v
tagged_ending v g e = record {
  chars = 0x40 ∷ v.tag;
  bytes = cond-false (length v.tag == 0) (datatype_text v.datatype) (codes "@" ++ v.tag) (some_tag v.tag g) ∙ sym (low_encodes (0x40 ∷ v.tag) (omega arith, g.low));
  good = low_scalars (0x40 ∷ v.tag) (omega arith, g.low);
  expected = expect.Object;
  dot = refl;
  stops = λ rest. refl;
  after = λ at. at + width (0x40 ∷ v.tag) + 1;
  reads = λ l h rest at.
      let small : length v.tag + 1 ≤ 65536 = g.narrow in
      let text : tag_text (0x40 ∷ v.tag) ≡ v.tag = ap encodes g.small ∙ low_encodes v.tag g.low in
      ap (judge (record l { expect = expect.Quoted; datatype = xsd_string; tag = [] }) h)
      (item_is kind.AtWord 0x40 v.tag (0x20 ∷ rest) g.run.last at refl g.run.leads g.run.accepts (omega (arith, low_width (0x40 ∷ v.tag) (omega arith, g.low), small)) (at_stops g.run.last g.run.accepts))
      ∙ ap₂ (λ d t. judge (record l { expect = expect.Object; datatype = d; tag = t }) h (items Between 0 rest (at + width (0x40 ∷ v.tag) + 1))) (sym e) text;
}

pub ending_read : (v : Literal) → Ending v → EndingRead v
ending_read v (inl (e, inl d)) = plain_ending v e (ap is_xsd_string d ∙ string_is)
ending_read v (inl (e, inr g)) = elim (cases_Bool (is_xsd_string v.datatype)) [ inl x ↦ plain_ending v e x | inr x ↦ typed_ending v e x g ]
ending_read v (inr (g, e)) = tagged_ending v g e

pub text_is : (text : List ℕ) (g : GoodText text) → value_text (text_token g.chars) ≡ text
text_is text g = meaning.text (text_token g.chars) ∙ ap (λ s. encodes (meaning.value s)) (inside_is 0x22 0x22 (escaped g.chars)) ∙ ap encodes (text_value g.chars) ∙ sym g.is

-- with the quotation marks before a text
pub text_bytes : (text more after : List ℕ) (g : GoodText text) → more ≡ encodes after → codes "\"" ++ (escaped text ++ (codes "\"" ++ more)) ≡ encodes (text_token g.chars ++ after)
text_bytes text more after g e =
    ap (λ x. 0x22 ∷ (x ++ 0x22 ∷ more)) (ap escaped g.is ∙ escaped_bytes g.chars)
    ∙ ap (λ x. 0x22 ∷ x) (sym (append_assoc (encodes (escaped g.chars)) (0x22 ∷ []) more))
    ∙ ap₂ (λ x y. x ++ y) (sym (marked 0x22 0x22 (escaped g.chars) (omega arith) (omega arith))) e
    ∙ sym (encodes-append (text_token g.chars) after)

pub literal_object : (names : NameLists) (n : ℕ) (v : Literal) → slice_get names.literals n ≡ Some v → GoodLiteral v → ObjectRead names (term.Lit n)
literal_object names n v e good =
    let g = good.lexical in
    let end = ending_read v good.ending in
    let small : width (escaped g.chars) + 2 ≤ 65536 = g.narrow in
    record {
      chars = text_token g.chars ++ end.chars;
      bytes = ap literal_or_none e ∙ text_bytes v.lexical (ending_text v) end.chars g end.bytes;
      good = scalars_append (text_token g.chars) end.chars (marked_scalars 0x22 0x22 (escaped g.chars) (omega arith) (omega arith) (escaped_scalars g.chars g.good)) end.good;
      expected = end.expected;
      dot = end.dot;
      so = sort.Literal;
      text = v.lexical;
      datatype = λ l. v.datatype;
      tag = λ l. v.tag;
      shows = λ l m d t. (refl, e ∙ ap₂ (λ x y. Some (record { lexical = v.lexical; datatype = x; tag = y })) (sym d) (sym t));
      after = λ at. end.after (at + width (text_token g.chars));
      reads = λ l h rest at.
          let far : ℕ = at + width (text_token g.chars) in
          ap (λ x. judge (record l { expect = expect.Predicate }) h (items Between 0 x at)) (append_assoc (text_token g.chars) end.chars (0x20 ∷ rest))
          ∙ ap (judge (record l { expect = expect.Predicate }) h) (item_is kind.Str 0x22 (escaped g.chars ++ 0x22 ∷ []) (end.chars ++ 0x20 ∷ rest) state.TextEnd at refl (text_token_run g.chars) refl
          (omega (arith, inner_width 0x22 0x22 (escaped g.chars) (omega arith) (omega arith), small)) (end.stops rest))
          ∙ ap (λ x. judge (with_object l expect.Quoted sort.Literal x xsd_string [] at) h (items Between 0 (end.chars ++ 0x20 ∷ rest) far)) (text_is v.lexical g)
          ∙ end.reads (record l { object_sort = sort.Literal; object = v.lexical; at = at }) h rest far;
    }
