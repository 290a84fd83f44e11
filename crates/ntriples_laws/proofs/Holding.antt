-- What the reader holds where it answers with names and triples.
use Rattle.std.proofs.Common.{ℕ, List, [], ◌∷◌, ◌++◌, ◌≡◌, ◌<◌, ◌≤◌, ◌+◌, Bool, true, false, cond, is_some, length, take, bytes_eq, refl, ap, sym, ◌∙◌, subst, arith, inl, inr, append-nil, length-append}
use Rattle.std.proofs.lemmas.Bool.{cases_lt, and_parts}
use Rattle.std.specs.Prelude.{Option, None, Some}
use lib.Utf8.{scalar, scalars}
use Rattle.text_patterns.specs.Machines.{Spells}
use Rattle.rdf_chars.specs.Steps.{start}
use Rattle.rdf_chars.specs.Utf8.{IsChars}
use Rattle.rdf_chars.specs.Decoding.{Decoded, decoded, Decodes}
use Rattle.rdf_chars.specs.Decoding.Decoded.{Chars, BadAt}
use Rattle.rdf_chars.proofs.Whole.{decoded_right}
use Rattle.rdf_terms.specs.declared.terms.Code.{Code}
use Rattle.rdf_terms.specs.declared.terms.Code.TheVariants.{G3}
use Rattle.rdf_terms.specs.declared.terms.Refusal.{Refusal}
use Rattle.rdf_terms.specs.declared.terms.Term.{Term}
use Rattle.rdf_terms.specs.declared.triples.Records.{Records}
use Rattle.rdf_terms.specs.Naming.{same_literal}
use Rattle.ntriples_tokens.specs.declared.kinds.Kind.{Kind}
use Rattle.ntriples_tokens.specs.declared.kinds.Kind.TheVariants as kind
use Rattle.token_scanner.specs.declared.place.Place.{Place}
use Rattle.token_scanner.specs.declared.place.Place.TheVariants.{Beginning, Between}
use Rattle.ntriples_tokens.specs.Machine.{ntriples}
use Rattle.ntriples_tokens.specs.Scanning.{scanner, Items, items}
use Rattle.token_scanner.specs.Items.Items.{Stop, Bad, TooLong, Item}
use Rattle.token_scanner.specs.Texts.{IsTooLong, AreChars}
use Rattle.ntriples_tokens.specs.Scanning.{AreItems}
use Rattle.token_scanner.specs.Widths.{width}
use Rattle.token_scanner.proofs.Saying.{texts_say}
use Rattle.ntriples_tokens.specs.ScannerLaws.{right}
use Rattle.ntriples_reader.specs.declared.line.Expect.{Expect}
use Rattle.ntriples_reader.specs.declared.line.Expect.TheVariants as expect
use Rattle.ntriples_reader.specs.declared.line.Sort.{Sort}
use Rattle.ntriples_reader.specs.declared.line.Sort.TheVariants as sort
use Rattle.ntriples_reader.specs.declared.store.Store.{Store}
use Rattle.ntriples_reader.specs.declared.store.Held.{Held}
use Rattle.rdf_vocabulary.specs.Iris.{xsd_string}
use Rattle.ntriples_reader.specs.Lines.{LineState, no_line, code_at, line_after}
use Rattle.ntriples_reader.specs.Storing.{literal_of, node_term, node_store, with_line, nothing, limited, held_by, held_after}
use Rattle.rdf_reading.specs.Answers.{Answer, unless, by_code}
use Rattle.ntriples_reader.specs.Answers.{records_of, held_behind, judge, text_answer}
use Rattle.rdf_reading.specs.Answers.Answer.{Refuse, Read}
use Rattle.ntriples_reader.specs.Feeding.{answer, by_decoded}
use Rattle.ntriples_laws.proofs.Treed.{refused_not}
use Rattle.ntriples_laws.proofs.Stepping.{iri_there, literal_there, first_store, second_store, taken}
use Rattle.ntriples_laws.proofs.Replaying.{Kept, kept_nothing, kept_step}
use Rattle.ntriples_laws.proofs.Reading.{taken_all}
use Rattle.ntriples_laws.proofs.Bytes.{chars_are_bytes}
use Rattle.ntriples_laws.proofs.Canon.{small_scalar}
use Rattle.ntriples_laws.proofs.Good.{GoodIri, GoodText, GoodLiteral, GoodNames, good_join}
use Rattle.ntriples_laws.proofs.Spelled.{IsToken, iri_good, text_good, tag_good, scalars_parts}

abbrev pub AreTokens : Items → Type 0
AreTokens (Item k chars at rest) = IsToken k chars × AreTokens rest
AreTokens _ = Unit {0}

pub not_wide : (chars rest : List ℕ) (k : Kind) → Spells ntriples k chars → (IsTooLong scanner (chars ++ rest) → ⊥) → width chars ≤ 65536
not_wide chars rest k s never = elim (cases_lt 65536 (width chars)) [
  | inl w ↦ absurd (never (record {
    count = length chars;
    in_text = omega (arith, length-append chars rest);
    wide = subst (λ x. 65536 < width x) (sym (taken_all chars rest)) w;
    front = (k, [], subst (Spells ntriples k) (sym (append-nil (take (length chars) (chars ++ rest)) ∙ taken_all chars rest)) s);
  }))
  | inr le ↦ le
]

pub are_tokens : (i : Items) (p : Place) (text : List ℕ) (at : ℕ) → scalars text ≡ true → AreItems p text at i → AreTokens i
are_tokens (Stop end) p text at good a = tt
are_tokens (Bad place) p text at good a = tt
are_tokens (TooLong place) p text at good a = tt
are_tokens (Item k chars place more) p text at good (g, rest, e, gap, first, never, pl, inner) =
    let two = scalars_parts chars rest (scalars_parts g (chars ++ rest) (ap scalars (sym e) ∙ good)).1 in
    let spelled : Spells ntriples k chars = subst (Spells ntriples k) (taken_all chars rest) first.spelled in
    (record { spelled = spelled; good = two.0; narrow = not_wide chars rest k spelled never }, are_tokens more Between rest (place + width chars) two.1 inner)

-- the texts of a line as far as it was read
abbrev pub TermOk : Sort → List ℕ → LineState → Type 0
TermOk sort.Iri text l = GoodIri text
TermOk sort.Blank text l = Unit {0}
TermOk sort.Literal text l = GoodLiteral (literal_of text l)

abbrev pub NodeOk : Sort → List ℕ → Type 0
NodeOk sort.Iri text = GoodIri text
NodeOk sort.Blank text = Unit {0}
NodeOk sort.Literal text = ⊥

pub record Sayable (l : LineState) : Type 0 where
  pub subject : NodeOk l.subject_sort l.subject
  pub predicate : GoodIri l.predicate
  pub object : TermOk l.object_sort l.object l

abbrev pub LineOk : Expect → LineState → Type 0
LineOk expect.Start l = Unit {0}
LineOk expect.Subject l = NodeOk l.subject_sort l.subject
LineOk expect.Predicate l = NodeOk l.subject_sort l.subject × GoodIri l.predicate
LineOk expect.Quoted l = NodeOk l.subject_sort l.subject × GoodIri l.predicate × (l.object_sort ≡ sort.Literal) × GoodText l.object × (l.datatype ≡ xsd_string) × (l.tag ≡ [])
LineOk expect.Typed l = NodeOk l.subject_sort l.subject × GoodIri l.predicate × (l.object_sort ≡ sort.Literal) × GoodText l.object × (l.tag ≡ [])
LineOk expect.Object l = Sayable l
LineOk expect.End l = Unit {0}

pub some_not : (c : Code) → ◌≡◌ {A = Option Code} (Some c) None → ⊥
some_not c e = cc e

pub line_ok : (e : Expect) (k : Kind) (l : LineState) (chars : List ℕ) (at : ℕ) → LineOk e l → IsToken k chars → code_at (record l { expect = e }) k chars ≡ None
    → LineOk (line_after (record l { expect = e }) k chars at).expect (line_after (record l { expect = e }) k chars at)
line_ok expect.Start kind.IriRef l chars at h t c = iri_good chars t c
line_ok expect.Start kind.Blank l chars at h t c = tt
line_ok expect.Start kind.Eol l chars at h t c = tt
line_ok expect.Start _ l chars at h t c = absurd (some_not _ c)
line_ok expect.Subject kind.IriRef l chars at h t c = (h, iri_good chars t c)
line_ok expect.Subject _ l chars at h t c = absurd (some_not _ c)
line_ok expect.Predicate kind.IriRef l chars at h t c = record { subject = h.0; predicate = h.1; object = iri_good chars t c }
line_ok expect.Predicate kind.Blank l chars at h t c = record { subject = h.0; predicate = h.1; object = tt }
line_ok expect.Predicate kind.Str l chars at h t c = (h.0, h.1, refl, text_good chars t, refl, refl)
line_ok expect.Predicate _ l chars at h t c = absurd (some_not _ c)
line_ok expect.Quoted kind.AtWord l chars at h t c = record {
  subject = h.0;
  predicate = h.1;
  object = subst (λ s. TermOk s l.object (line_after (record l { expect = expect.Quoted }) kind.AtWord chars at)) (sym h.2) (record { lexical = h.3; ending = inr (tag_good chars t, refl) });
}
line_ok expect.Quoted kind.Carets l chars at h t c = (h.0, h.1, h.2, h.3, h.5)
line_ok expect.Quoted kind.Dot l chars at h t c = tt
line_ok expect.Quoted _ l chars at h t c = absurd (some_not _ c)
line_ok expect.Typed kind.IriRef l chars at h t c = record {
  subject = h.0;
  predicate = h.1;
  object = subst (λ s. TermOk s l.object (line_after (record l { expect = expect.Typed }) kind.IriRef chars at)) (sym h.2) (record { lexical = h.3; ending = inl (h.4, inr (iri_good chars t c)) });
}
line_ok expect.Typed _ l chars at h t c = absurd (some_not _ c)
line_ok expect.Object kind.Dot l chars at h t c = tt
line_ok expect.Object _ l chars at h t c = absurd (some_not _ c)
line_ok expect.End kind.Eol l chars at h t c = tt
line_ok expect.End _ l chars at h t c = absurd (some_not _ c)

-- a line with its full stop
pub dot_ok : (e : Expect) (l : LineState) (chars : List ℕ) (at : ℕ) → LineOk e l → code_at (record l { expect = e }) kind.Dot chars ≡ None → Sayable (line_after (record l { expect = e }) kind.Dot chars at)
dot_ok expect.Object l chars at h c = record { subject = h.subject; predicate = h.predicate; object = moved_ok l.object_sort h.object }
  where
    moved_ok : (s : Sort) → TermOk s l.object l → TermOk s l.object (record l { expect = expect.End })
    moved_ok sort.Iri h = h
    moved_ok sort.Blank h = h
    moved_ok sort.Literal h = h
dot_ok expect.Quoted l chars at h c = record {
  subject = h.0;
  predicate = h.1;
  object = subst (λ s. TermOk s l.object (record l { expect = expect.End })) (sym h.2) (record { lexical = h.3; ending = inl (h.5, inl h.4) });
}
dot_ok expect.Start l chars at h c = absurd (some_not _ c)
dot_ok expect.Subject l chars at h c = absurd (some_not _ c)
dot_ok expect.Predicate l chars at h c = absurd (some_not _ c)
dot_ok expect.Typed l chars at h c = absurd (some_not _ c)
dot_ok expect.End l chars at h c = absurd (some_not _ c)

-- names stay good
pub node_good : (st : Store) (so : Sort) (text : List ℕ) (l : LineState) (t : Term) → node_term st so text l ≡ Some t → TermOk so text l → GoodNames st.names → GoodNames (node_store st so text l).names
node_good st sort.Iri text l t h ok good = subst GoodNames (sym (iri_there st.names text t h).0) (record { iris = good_join GoodIri (bytes_eq text) st.names.iris text good.iris ok; literals = good.literals })
node_good st sort.Blank text l t h ok good = good
node_good st sort.Literal text l t h ok good = let v = literal_of text l in
    subst GoodNames (sym (literal_there st.names v t h).0) (record { iris = good.iris; literals = good_join GoodLiteral (same_literal v) st.names.literals v good.literals ok })

pub node_ok : (so : Sort) (text : List ℕ) (l : LineState) → NodeOk so text → TermOk so text l
node_ok sort.Iri text l h = h
node_ok sort.Blank text l h = h
node_ok sort.Literal text l h = absurd h

pub no_literal : (so : Sort) (text : List ℕ) → NodeOk so text → so ≡ sort.Literal → ⊥
no_literal so text h e = subst (λ s. NodeOk s text) e h

pub line_good : (st : Store) (l : LineState) (next : Store) → Sayable l → with_line st l ≡ (None, next) → GoodNames st.names → GoodNames next.names
line_good st l next s e good =
    let k = taken st l next e in
    let a = node_good st l.subject_sort l.subject l k.s k.first (node_ok l.subject_sort l.subject l s.subject) good in
    let b = node_good (first_store st l) sort.Iri l.predicate l k.p k.second s.predicate a in
    let c = node_good (second_store st l) l.object_sort l.object l k.o k.third s.object b in
    subst GoodNames (sym (ap (λ x. x.names) k.is)) c

abbrev pub LimitOk : Option Refusal → Store → Type 0
LimitOk None st = Kept st × GoodNames st.names
LimitOk (Some r) st = Unit {0}

abbrev pub HeldOk : Held → Type 0
HeldOk h = LimitOk h.limit h.store

pub limited_ok : (st : Store) (l : LineState) (x : Option Code × Store) → Sayable l → Kept st → GoodNames st.names → with_line st l ≡ x → HeldOk (limited x.1 x.0 l.at)
limited_ok st l x s kept good e = by x.0 refl
  where
    by : (c : Option Code) → x.0 ≡ c → HeldOk (limited x.1 x.0 l.at)
    by (Some c) f = subst (λ o. HeldOk (limited x.1 o l.at)) (sym f) tt
    by None f =
        let line : with_line st l ≡ (None, x.1) = e ∙ ap (λ o. (o, x.1)) f in
        subst (λ o. HeldOk (limited x.1 o l.at)) (sym f) (kept_step st l x.1 (no_literal l.subject_sort l.subject s.subject) line kept, line_good st l x.1 s line good)

pub held_step : (h : Held) (l : LineState) → Sayable l → HeldOk h → HeldOk (held_after h l)
held_step h l s ok = by h.limit refl
  where
    by : (o : Option Refusal) → h.limit ≡ o → HeldOk (held_after h l)
    by (Some r) e = subst HeldOk (sym (ap (λ o. held_by (is_some o) h l) e)) ok
    by None e = let both = subst (λ o. LimitOk o h.store) e ok in
        subst HeldOk (sym (ap (λ o. held_by (is_some o) h l) e)) (limited_ok h.store l (with_line h.store l) s both.0 both.1 refl)

pub held_ok : (k : Kind) (l : LineState) (h : Held) (chars : List ℕ) (at : ℕ) → LineOk l.expect l → code_at l k chars ≡ None → HeldOk h → HeldOk (held_behind k (line_after l k chars at) h)
held_ok kind.Dot l h chars at ok c held = held_step h (line_after l kind.Dot chars at) (dot_ok l.expect l chars at ok c) held
held_ok _ l h chars at ok c held = held

-- names and triples that were read, with the store that held them
pub record Answered (r : Records) : Type 0 where
  pub store : Store
  pub is : r ≡ records_of store
  pub kept : Kept store
  pub good : GoodNames store.names

pub read_same : (a b : Records) → ◌≡◌ {A = Answer} (Read a) (Read b) → a ≡ b
read_same a b e = cc

pub stop_ok : (b : Bool) (o : Option Refusal) (st : Store) (end : ℕ) (r : Records) → cond b (unless o (Read (records_of st))) (Refuse G3 end) ≡ Read r → LimitOk o st → Answered r
stop_ok true None st end r e ok = record { store = st; is = sym (read_same (records_of st) r e); kept = ok.0; good = ok.1 }
stop_ok true (Some x) st end r e ok = absurd (refused_not x.code x.at r e)
stop_ok false o st end r e ok = absurd (refused_not G3 end r e)

pub judge_ok : (i : Items) (l : LineState) (h : Held) (r : Records) → AreTokens i → LineOk l.expect l → HeldOk h → judge l h i ≡ Read r → Answered r
judge_ok (Stop end) l h r t ok held e = stop_ok _ h.limit h.store end r e held
judge_ok (Bad at) l h r t ok held e = absurd (refused_not _ at r e)
judge_ok (TooLong at) l h r t ok held e = absurd (refused_not _ at r e)
judge_ok (Item k chars at rest) l h r t ok held e = by (code_at l k chars) refl
    (λ c d. judge_ok rest (line_after l k chars at) (held_behind k (line_after l k chars at) h) r t.1 (line_ok l.expect k l chars at ok t.0 c) (held_ok k l h chars at ok c held) d)
  where
    by : (o : Option Code) → code_at l k chars ≡ o
        → (code_at l k chars ≡ None → judge (line_after l k chars at) (held_behind k (line_after l k chars at) h) rest ≡ Read r → Answered r) → Answered r
    by (Some c) f go = absurd (refused_not c at r (ap (λ o. by_code o at (judge (line_after l k chars at) (held_behind k (line_after l k chars at) h) rest)) (sym f) ∙ e))
    by None f go = go f (ap (λ o. by_code o at (judge (line_after l k chars at) (held_behind k (line_after l k chars at) h) rest)) (sym f) ∙ e)

pub scalars_chars : (cs : List ℕ) → scalars cs ≡ true → AreChars cs
scalars_chars [] h = tt
scalars_chars (c ∷ cs) h = let both = and_parts (scalar c) (scalars cs) h in (small_scalar c both.0, scalars_chars cs both.1)

pub answered : (bytes : List ℕ) (r : Records) → answer bytes ≡ Read r → Answered r
answered bytes r e = by (decoded start bytes) refl e
  where
    whole : (cs : List ℕ) → Decodes bytes (decoded start bytes) → decoded start bytes ≡ Chars cs → IsChars cs bytes
    whole cs d f = subst (Decodes bytes) f d

    by : (d : Decoded) → decoded start bytes ≡ d → by_decoded d text_answer ≡ Read r → Answered r
    by (Chars cs) f e =
        let good : scalars cs ≡ true = (whole cs (decoded_right bytes (chars_are_bytes bytes cs f)) f).0 in
        judge_ok (items Beginning 0 cs 0) no_line nothing r (are_tokens (items Beginning 0 cs 0) Beginning cs 0 good (texts_say scanner right Beginning cs 0 (scalars_chars cs good))) tt
        (kept_nothing, record { iris = λ n text h. absurd (cc h); literals = λ n v h. absurd (cc h) }) e
    by (BadAt place) f e = absurd (refused_not _ place r e)
