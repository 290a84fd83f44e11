-- Canonical lines are read back.
use Rattle.std.proofs.Common.{ℕ, zero, suc, List, [], ◌∷◌, ◌++◌, ◌≡◌, ◌<◌, ◌+◌, ◌^◌, true, false, length, flat_map, slice_get, codes, refl, ap, ap₂, sym, ◌∙◌, subst, arith, append_assoc, true≢false}
use Rattle.std.proofs.lemmas.Bool.{false≢true}
use Rattle.std.proofs.lemmas.Str.{encode_ascii, encodes-append}
use Rattle.std.specs.Prelude.{None, Some}
use lib.Utf8.{scalars, encodes}
use Rattle.rdf_chars.specs.Steps.{start}
use Rattle.rdf_chars.specs.Decoding.{decoded}
use Rattle.rdf_terms.specs.declared.terms.Term.{Term}
use Rattle.rdf_terms.specs.declared.terms.Term.TheVariants as term
use Rattle.rdf_terms.specs.declared.terms.Triple.{Triple}
use Rattle.rdf_terms.specs.declared.triples.Records.{Records}
use Rattle.rdf_terms.specs.Naming.{NameLists}
use Rattle.rdf_terms.specs.Fitting.{is_iri, is_literal}
use Rattle.ntriples_tokens.specs.declared.kinds.Kind.TheVariants as kind
use Rattle.token_scanner.specs.declared.place.Place.TheVariants.{Between}
use Rattle.ntriples_tokens.specs.declared.states.State.TheVariants as state
use Rattle.ntriples_tokens.specs.Scanning.{items}
use Rattle.token_scanner.specs.Widths.{width}
use Rattle.ntriples_reader.specs.declared.line.Expect.{Expect}
use Rattle.ntriples_reader.specs.declared.line.Expect.TheVariants as expect
use Rattle.ntriples_reader.specs.declared.store.Store.{Store}
use Rattle.ntriples_reader.specs.declared.store.Held.{Held}
use Rattle.ntriples_reader.specs.Lines.{LineState, no_line, moved, code_by}
use Rattle.ntriples_reader.specs.Lines as lines
use Rattle.ntriples_reader.specs.Storing.{nothing, held_after}
use Rattle.ntriples_reader.specs.Answers.{records_of, judge, text_answer}
use Rattle.rdf_reading.specs.Answers.{unless, by_code}
use Rattle.rdf_reading.specs.Answers.Answer.{Read}
use Rattle.ntriples_reader.specs.Feeding.{answer, by_decoded}
use Rattle.ntriples_writer.specs.Lines.{term_text, canonical_line}
use Rattle.ntriples_laws.specs.Canonical.{canonical_text, IsSame}
use Rattle.ntriples_laws.proofs.Stepping.{InStore}
use Rattle.ntriples_laws.proofs.Replaying.{AllIn, Shows, ShowAll, held_all, Kept}
use Rattle.ntriples_laws.proofs.Reading.{Stops, item_is}
use Rattle.ntriples_laws.proofs.Canon.{scalars_append, decoded_chars}
use Rattle.ntriples_laws.proofs.Good.{GoodNames}
use Rattle.ntriples_laws.proofs.Holding.{answered}
use Rattle.ntriples_laws.proofs.Terms.{Begun, SubjectRead, iri_subject, blank_subject, with_subject, VerbRead, iri_verb, with_verb, ObjectRead, iri_object, blank_object, literal_object, with_object}

-- the full stop and the line's end
pub stop_read : (m : LineState) (e : Expect) (h : Held) (rest : List ℕ) (at : ℕ) → lines.next e kind.Dot ≡ Some expect.End → Stops state.Lines rest
    → judge (record m { expect = e }) h (items Between 0 (0x2E ∷ 0xA ∷ rest) at)
    ≡ judge (record m { expect = expect.Start }) (held_after h (record m { expect = expect.End })) (items Between 0 rest (at + width (0x2E ∷ []) + width (0xA ∷ [])))
stop_read m e h rest at dot s =
    let far : ℕ = at + width (0x2E ∷ []) in
    ap (judge (record m { expect = e }) h) (item_is kind.Dot 0x2E [] (0xA ∷ rest) state.Stop at refl refl refl (omega arith) refl)
    ∙ ap (λ o. by_code (code_by o None) at (judge (moved (record m { expect = e }) o) (held_after h (moved (record m { expect = e }) o)) (items Between 0 (0xA ∷ rest) far))) dot
    ∙ ap (judge (record m { expect = expect.End }) (held_after h (record m { expect = expect.End }))) (item_is kind.Eol 0xA [] rest state.Lines far refl refl refl (omega arith) s)

pub record LineTaken (names : NameLists) (t : Triple) (l : LineState) (h : Held) (text rest : List ℕ) (at : ℕ) : Type 0 where
  pub line : LineState
  pub after : ℕ
  pub shows : Shows names t line
  pub is : judge (record l { expect = expect.Start }) h (items Between 0 text at) ≡ judge (record line { expect = expect.Start }) (held_after h line) (items Between 0 rest after)

pub record LineRead (names : NameLists) (t : Triple) : Type 0 where
  pub chars : List ℕ
  pub bytes : canonical_line names t ≡ encodes chars
  pub good : scalars chars ≡ true
  pub begun : (rest : List ℕ) → Begun (chars ++ rest)
  pub reads : (l : LineState) (h : Held) (rest : List ℕ) (at : ℕ) → Stops state.Lines rest → LineTaken names t l h (chars ++ rest) rest at

abbrev pub line_end : List ℕ
line_end = 0x20 ∷ 0x2E ∷ 0xA ∷ []

pub spaced : (a x : List ℕ) → encodes (a ++ 0x20 ∷ x) ≡ encodes a ++ 0x20 ∷ encodes x
spaced a x = encodes-append a (0x20 ∷ x) ∙ ap (λ y. encodes a ++ (y ++ encodes x)) (encode_ascii 0x20 (omega arith))

pub end_bytes : encodes (0x2E ∷ 0xA ∷ []) ≡ 0x2E ∷ 0xA ∷ []
end_bytes = ap₂ (λ x y. x ++ (y ++ [])) (encode_ascii 0x2E (omega arith)) (encode_ascii 0xA (omega arith))

pub line_bytes : (names : NameLists) (t : Triple) (s p o : List ℕ) → term_text names t.s ≡ encodes s → term_text names t.p ≡ encodes p → term_text names t.o ≡ encodes o
    → canonical_line names t ≡ encodes (s ++ 0x20 ∷ (p ++ 0x20 ∷ (o ++ line_end)))
unfolding canonical_line
line_bytes names t s p o a b c =
    ap₂ (λ x y. x ++ (codes " " ++ y)) a (ap₂ (λ x y. x ++ (codes " " ++ y)) b (ap (λ x. x ++ codes " .\n") c))
    ∙ sym (spaced s (p ++ 0x20 ∷ (o ++ line_end)) ∙ ap (λ y. encodes s ++ 0x20 ∷ y) (spaced p (o ++ line_end) ∙ ap (λ y. encodes p ++ 0x20 ∷ y) (spaced o (0x2E ∷ 0xA ∷ []) ∙ ap (λ y. encodes o ++ 0x20 ∷ y) end_bytes)))

pub spaced_scalars : (a x : List ℕ) → scalars a ≡ true → scalars x ≡ true → scalars (a ++ 0x20 ∷ x) ≡ true
spaced_scalars a x h k = scalars_append a (0x20 ∷ x) h k

pub line_whole : (s p o rest : List ℕ) → (s ++ 0x20 ∷ (p ++ 0x20 ∷ (o ++ line_end))) ++ rest ≡ s ++ 0x20 ∷ (p ++ 0x20 ∷ (o ++ 0x20 ∷ 0x2E ∷ 0xA ∷ rest))
line_whole s p o rest =
    append_assoc s (0x20 ∷ (p ++ 0x20 ∷ (o ++ line_end))) rest
    ∙ ap (λ y. s ++ 0x20 ∷ y) (append_assoc p (0x20 ∷ (o ++ line_end)) rest ∙ ap (λ y. p ++ 0x20 ∷ y) (append_assoc o line_end rest))

-- what follows the subject, the predicate and the object
abbrev pub behind_object : List ℕ → List ℕ
behind_object rest = 0x2E ∷ 0xA ∷ rest

abbrev pub behind_verb : List ℕ → List ℕ → List ℕ
behind_verb o rest = o ++ 0x20 ∷ behind_object rest

abbrev pub behind_subject : List ℕ → List ℕ → List ℕ → List ℕ
behind_subject p o rest = p ++ 0x20 ∷ behind_verb o rest

-- the parts of a line, one after another
pub parts_read : (h : Held) (l a b c : LineState) (s p o rest : List ℕ) (at x y z : ℕ)
    → judge (record l { expect = expect.Start }) h (items Between 0 (s ++ 0x20 ∷ behind_subject p o rest) at) ≡ judge a h (items Between 0 (behind_subject p o rest) x)
    → judge a h (items Between 0 (behind_subject p o rest) x) ≡ judge b h (items Between 0 (behind_verb o rest) y)
    → judge b h (items Between 0 (behind_verb o rest) y) ≡ judge c h (items Between 0 (behind_object rest) z)
    → lines.next c.expect kind.Dot ≡ Some expect.End → Stops state.Lines rest
    → judge (record l { expect = expect.Start }) h (items Between 0 ((s ++ 0x20 ∷ (p ++ 0x20 ∷ (o ++ line_end))) ++ rest) at)
    ≡ judge (record c { expect = expect.Start }) (held_after h (record c { expect = expect.End })) (items Between 0 rest (z + width (0x2E ∷ []) + width (0xA ∷ [])))
parts_read h l a b c s p o rest at x y z subject verb object dot stops =
    ap (λ t. judge (record l { expect = expect.Start }) h (items Between 0 t at)) (line_whole s p o rest) ∙ subject ∙ verb ∙ object ∙ stop_read c c.expect h rest z dot stops

pub line_read : (names : NameLists) (t : Triple) → SubjectRead names t.s → VerbRead names t.p → ObjectRead names t.o → LineRead names t
line_read names t s p o = record {
  chars = s.chars ++ 0x20 ∷ (p.chars ++ 0x20 ∷ (o.chars ++ line_end));
  bytes = line_bytes names t s.chars p.chars o.chars s.bytes p.bytes o.bytes;
  good = spaced_scalars s.chars (p.chars ++ 0x20 ∷ (o.chars ++ line_end)) s.good (spaced_scalars p.chars (o.chars ++ line_end) p.good (scalars_append o.chars line_end o.good refl));
  begun = λ rest. subst Begun (sym (append_assoc s.chars (0x20 ∷ (p.chars ++ 0x20 ∷ (o.chars ++ line_end))) rest)) (s.begun (0x20 ∷ (p.chars ++ 0x20 ∷ (o.chars ++ line_end)) ++ rest));
  reads = λ l h rest at stops.
      let a : LineState = with_subject l s.so s.text in
      let b : LineState = with_verb a p.text in
      let from_o : ℕ = p.after (s.after at) in
      let c : LineState = with_object b o.expected o.so o.text (o.datatype b) (o.tag b) from_o in
      record {
        line = record c { expect = expect.End };
        after = o.after from_o + width (0x2E ∷ []) + width (0xA ∷ []);
        shows = record { s = s.shows (record c { expect = expect.End }); p = p.shows (record c { expect = expect.End }); o = o.shows b (record c { expect = expect.End }) refl refl };
        is = parts_read h l a b c s.chars p.chars o.chars rest at (s.after at) from_o (o.after from_o) (s.reads l h (behind_subject p.chars o.chars rest) at) (p.reads a h (behind_verb o.chars rest) (s.after at))
            (o.reads b h (behind_object rest) from_o) o.dot stops;
      };
}

-- the terms of a triple that is held
pub record Got {X : Type 0} (xs : List X) (n : ℕ) : Type 0 where
  pub value : X
  pub is : slice_get xs n ≡ Some value

pub got : {X : Type 0} (xs : List X) (n : ℕ) → n < length xs → Got xs n
got [] n h = absurd (omega (arith, h))
got (x ∷ xs) zero h = record { value = x; is = refl }
got (x ∷ xs) (suc n) h = let r = got xs n (omega (arith, h)) in record { value = r.value; is = r.is }

pub subject_of : (st : Store) → GoodNames st.names → length st.labels < 2 ^ 64 → (t : Term) → InStore st t → is_literal t ≡ false → SubjectRead st.names t
subject_of st good small (term.Iri n) i h = let r = got st.names.iris n i in iri_subject st.names n r.value r.is (good.iris n r.value r.is)
subject_of st good small (term.Blank n) i h = blank_subject st.names n (omega (arith, small, i))
subject_of st good small (term.Lit n) i h = absurd (true≢false h)

pub verb_of : (st : Store) → GoodNames st.names → (t : Term) → InStore st t → is_iri t ≡ true → VerbRead st.names t
verb_of st good (term.Iri n) i h = let r = got st.names.iris n i in iri_verb st.names n r.value r.is (good.iris n r.value r.is)
verb_of st good (term.Blank n) i h = absurd (false≢true h)
verb_of st good (term.Lit n) i h = absurd (false≢true h)

pub object_of : (st : Store) → GoodNames st.names → length st.labels < 2 ^ 64 → (t : Term) → InStore st t → ObjectRead st.names t
object_of st good small (term.Iri n) i = let r = got st.names.iris n i in iri_object st.names n r.value r.is (good.iris n r.value r.is)
object_of st good small (term.Blank n) i = blank_object st.names n (omega (arith, small, i))
object_of st good small (term.Lit n) i = let r = got st.names.literals n i in literal_object st.names n r.value r.is (good.literals n r.value r.is)

pub record TextTaken (names : NameLists) (ts : List Triple) (l : LineState) (h : Held) (text : List ℕ) (at : ℕ) : Type 0 where
  pub lines : List LineState
  pub shows : ShowAll names ts lines
  pub is : judge (record l { expect = expect.Start }) h (items Between 0 text at) ≡ unless (held_all h lines).limit (Read (records_of (held_all h lines).store))

pub record TextRead (names : NameLists) (ts : List Triple) : Type 0 where
  pub chars : List ℕ
  pub bytes : flat_map (canonical_line names) ts ≡ encodes chars
  pub good : scalars chars ≡ true
  pub begun : Begun chars
  pub reads : (l : LineState) (h : Held) (at : ℕ) → TextTaken names ts l h chars at

pub text_read : (st : Store) → GoodNames st.names → length st.labels < 2 ^ 64 → (ts : List Triple) → AllIn st ts → TextRead st.names ts
text_read st good small [] f = record {
  chars = [];
  bytes = refl;
  good = refl;
  begun = record { stops = tt; same = λ at. refl };
  reads = λ l h at. record { lines = []; shows = tt; is = refl };
}
text_read st good small (t ∷ ts) f =
    let one = line_read st.names t (subject_of st good small t.s f.0.s f.0.node) (verb_of st good t.p f.0.p f.0.verb) (object_of st good small t.o f.0.o) in
    let rest = text_read st good small ts f.1 in
    record {
      chars = one.chars ++ rest.chars;
      bytes = ap₂ (λ x y. x ++ y) one.bytes rest.bytes ∙ sym (encodes-append one.chars rest.chars);
      good = scalars_append one.chars rest.chars one.good rest.good;
      begun = one.begun rest.chars;
      reads = λ l h at.
          let a = one.reads l h rest.chars at rest.begun.stops in
          let b = rest.reads a.line (held_after h a.line) a.after in
          record { lines = a.line ∷ b.lines; shows = (a.shows, b.shows); is = a.is ∙ b.is };
    }

pub store_back : (st : Store) → Kept st → GoodNames st.names → (q : Records) × (answer (canonical_text (records_of st)) ≡ Read q) × IsSame q (records_of st)
store_back st kept good =
    let few : length st.labels < 2 ^ 64 = omega (arith, kept.few, kept.short) in
    let text = text_read st good few st.triples kept.fitting in
    let taken = text.reads no_line nothing 0 in
    let again = kept.replays st.names taken.lines (record { iris = λ n v e. e; literals = λ n v e. e }) taken.shows in (
      records_of again.store,
      ap (λ b. by_decoded (decoded start b) text_answer) text.bytes
          ∙ ap (λ d. by_decoded d text_answer) (decoded_chars text.chars text.good)
          ∙ ap (judge no_line nothing) (text.begun.same 0)
          ∙ taken.is
          ∙ ap (λ h. unless h.limit (Read (records_of h.store))) again.held,
      record { names = again.again.names; triples = again.again.triples },
    )

pub read_back : (bytes : List ℕ) (r : Records) → answer bytes ≡ Read r → (q : Records) × (answer (canonical_text r) ≡ Read q) × IsSame q r
read_back bytes r e =
    let a = answered bytes r e in
    subst (λ r. (q : Records) × (answer (canonical_text r) ≡ Read q) × IsSame q r) (sym a.is) (store_back a.store a.kept a.good)
