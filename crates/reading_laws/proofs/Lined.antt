-- What is read of N-Triples is orderly.
use Rattle.std.proofs.Common.{ℕ, List, [], ◌∷◌, ◌++◌, ◌≡◌, ◌≤◌, ◌+◌, Bool, true, false, cond, length, bytes_eq, is_some, refl, ap, sym, ◌∙◌, subst, arith}
use Rattle.std.specs.Prelude.{Option, None, Some}
use Rattle.rdf_terms.specs.declared.terms.Code.{Code}
use Rattle.rdf_terms.specs.declared.terms.Code.TheVariants.{G3}
use Rattle.rdf_terms.specs.declared.terms.Literal.{Literal}
use Rattle.rdf_terms.specs.declared.terms.Refusal.{Refusal}
use Rattle.rdf_terms.specs.declared.terms.Term.{Term}
use Rattle.rdf_terms.specs.declared.terms.Term.TheVariants as term
use Rattle.rdf_terms.specs.declared.triples.Records.{Records}
use Rattle.rdf_terms.specs.Naming.{NameLists, same_literal, iri_number, with_iri, literal_number, with_literal, has_iri, has_literal, name_count}
use Rattle.rdf_chars.specs.Steps as steps
use Rattle.rdf_chars.specs.Decoding.{Decoded, decoded, Decodes}
use Rattle.rdf_chars.specs.Decoding.Decoded.{Chars, BadAt}
use Rattle.rdf_chars.specs.Utf8.{IsChars}
use Rattle.rdf_chars.proofs.Whole.{decoded_right}
use lib.Utf8.{scalars}
use Rattle.ntriples_tokens.specs.declared.kinds.Kind.{Kind}
use Rattle.ntriples_tokens.specs.declared.kinds.Kind.TheVariants as kind
use Rattle.token_scanner.specs.declared.place.Place.TheVariants.{Beginning}
use Rattle.ntriples_tokens.specs.Scanning.{Items, items, scanner}
use Rattle.ntriples_tokens.specs.ScannerLaws.{right}
use Rattle.token_scanner.specs.Items.Items.{Stop, Bad, TooLong, Item}
use Rattle.token_scanner.proofs.Saying.{texts_say}
use Rattle.ntriples_reader.specs.declared.line.Sort.{Sort}
use Rattle.ntriples_reader.specs.declared.line.Sort.TheVariants as sort
use Rattle.ntriples_reader.specs.declared.store.Store.{Store}
use Rattle.ntriples_reader.specs.declared.store.Held.{Held}
use Rattle.ntriples_reader.specs.Lines.{LineState, no_line, code_at, line_after}
use Rattle.ntriples_reader.specs.Storing.{label_number, with_label, literal_of, node_term, node_store, with_line, nothing, limited, held_by, held_after}
use Rattle.rdf_reading.specs.Room.{is_full_iri, is_full_literal, iri_term, literal_term}
use Rattle.ntriples_reader.specs.Answers.{records_of, held_behind, judge, text_answer}
use Rattle.rdf_reading.specs.Answers.{unless, by_code}
use Rattle.rdf_reading.specs.Answers.Answer.{Refuse, Read}
use Rattle.ntriples_reader.specs.Feeding.{answer, by_decoded}
use Rattle.ntriples_laws.proofs.Numbering.{position_le}
use Rattle.ntriples_laws.proofs.Labels.{bytes_self}
use Rattle.ntriples_laws.proofs.Stepping.{some_same, iri_there, literal_there, first_store, second_store, third_store, taken}
use Rattle.ntriples_laws.proofs.Replaying.{not_literal}
use Rattle.ntriples_laws.proofs.Treed.{refused_not}
use Rattle.ntriples_laws.proofs.Bytes.{chars_are_bytes}
use Rattle.ntriples_laws.proofs.Holding.{AreTokens, are_tokens, LineOk, line_ok, Sayable, dot_ok, no_literal, read_same, scalars_chars}
use Rattle.reading_laws.specs.Meaning.{Graph}
use Rattle.reading_laws.specs.Numbering.{AreOrderly}
use Rattle.reading_laws.proofs.Numbers.{once_none}
use Rattle.reading_laws.proofs.Graphs.{counts_of, Orderly, moved, once_join, count_join, literal_self, few_join, most_join, triple_room}
use Rattle.reading_laws.proofs.Fitted.{are_orderly}

-- a store as a graph
abbrev graph_of : Store → Graph
graph_of st = record { blanks = record { labels = []; count = length st.labels }; store = record { names = st.names; triples = st.triples; full = false; limit = None } }

none_some : {X : Type 0} (x : X) → None ≡ Some x → ⊥
none_some x e = cc e

not_full_iri : (names : NameLists) (text : List ℕ) (t : Term) → iri_term names text ≡ Some t → is_full_iri names text ≡ false
not_full_iri names text t e = by (is_full_iri names text) e
  where
    by : (b : Bool) → cond b None (Some (term.Iri (iri_number names text))) ≡ Some t → b ≡ false
    by true f = absurd (none_some t f)
    by false f = refl

not_full_literal : (names : NameLists) (v : Literal) (t : Term) → literal_term names v ≡ Some t → is_full_literal names v ≡ false
not_full_literal names v t e = by (is_full_literal names v) e
  where
    by : (b : Bool) → cond b None (Some (term.Lit (literal_number names v))) ≡ Some t → b ≡ false
    by true f = absurd (none_some t f)
    by false f = refl

term_step : (st : Store) (so : Sort) (text : List ℕ) (l : LineState) (t : Term) (ps : List Term) → node_term st so text l ≡ Some t → Orderly (graph_of st) [] ps → Orderly (graph_of (node_store st so text l)) [] (ps ++ t ∷ [])
term_step st sort.Iri text l t ps h o =
    let there = iri_there st.names text t h in
    let n : ℕ = iri_number st.names text in
    let names : NameLists = with_iri st.names text in
    let few : length names.iris + length names.literals ≤ 262144 =
    omega (
      arith,
      few_join (has_iri st.names text) (length st.names.iris) (length names.iris) (name_count st.names) (not_full_iri st.names text t h) o.few
          (most_join (bytes_eq text) st.names.iris text).0 (most_join (bytes_eq text) st.names.iris text).1,
    ) in
    subst (λ x. Orderly (graph_of (record st { names = x })) [] (ps ++ t ∷ [])) (sym there.0) (subst (λ u. Orderly (graph_of (record st { names = names })) [] (ps ++ u ∷ [])) (sym there.1)
    (moved (graph_of st) (graph_of (record st { names = names })) [] ps (term.Iri n) o refl refl refl (position_le (bytes_eq text) st.names.iris)
    (ap (λ k. record { iris = k; blanks = length st.labels; literals = length st.names.literals }) (count_join (bytes_eq text) st.names.iris text))
    (once_join bytes_eq bytes_self st.names.iris text o.iris) o.literals tt few))
term_step st sort.Blank text l t ps h o =
    let n : ℕ = label_number st.labels text in
    subst (λ u. Orderly (graph_of (record st { labels = with_label st.labels text })) [] (ps ++ u ∷ [])) (some_same (term.Blank n) t h)
    (moved (graph_of st) (graph_of (record st { labels = with_label st.labels text })) [] ps (term.Blank n) o refl refl refl (position_le (bytes_eq text) st.labels)
    (ap (λ k. counts_of st.names k) (count_join (bytes_eq text) st.labels text)) o.iris o.literals tt o.few)
term_step st sort.Literal text l t ps h o =
    let v : Literal = literal_of text l in
    let there = literal_there st.names v t h in
    let n : ℕ = literal_number st.names v in
    let names : NameLists = with_literal st.names v in
    let few : length names.iris + length names.literals ≤ 262144 =
    omega (
      arith,
      few_join (has_literal st.names v) (length st.names.literals) (length names.literals) (name_count st.names) (not_full_literal st.names v t h) o.few
          (most_join (same_literal v) st.names.literals v).0 (most_join (same_literal v) st.names.literals v).1,
    ) in
    subst (λ x. Orderly (graph_of (record st { names = x })) [] (ps ++ t ∷ [])) (sym there.0) (subst (λ u. Orderly (graph_of (record st { names = names })) [] (ps ++ u ∷ [])) (sym there.1)
    (moved (graph_of st) (graph_of (record st { names = names })) [] ps (term.Lit n) o refl refl refl (position_le (same_literal v) st.names.literals)
    (ap (λ k. record { iris = length st.names.iris; blanks = length st.labels; literals = k }) (count_join (same_literal v) st.names.literals v))
    o.iris (once_join same_literal literal_self st.names.literals v o.literals) tt few))

line_step : (st : Store) (l : LineState) (next : Store) → Sayable l → with_line st l ≡ (None, next) → Orderly (graph_of st) [] [] → Orderly (graph_of next) [] []
line_step st l next s e o =
    let k = taken st l next e in
    let a = term_step st l.subject_sort l.subject l k.s [] k.first o in
    let b = term_step (first_store st l) sort.Iri l.predicate l k.p (k.s ∷ []) k.second a in
    let c = term_step (second_store st l) l.object_sort l.object l k.o (k.s ∷ k.p ∷ []) k.third b in
    let node = not_literal st l.subject_sort l.subject l k.s (no_literal l.subject_sort l.subject s.subject) k.first in
    let verb = (iri_there (first_store st l).names l.predicate k.p k.second).1 in
    subst (λ x. Orderly (graph_of x) [] []) (sym k.is) (triple_room (graph_of (third_store st l)) [] (record { s = k.s; p = k.p; o = k.o; at = l.at }) node (ap Rattle.rdf_terms.specs.Fitting.is_iri verb) c k.room)

abbrev LimitOrderly : Option Refusal → Store → Type 0
LimitOrderly None st = Orderly (graph_of st) [] []
LimitOrderly (Some r) st = Unit {0}

abbrev HeldOrderly : Held → Type 0
HeldOrderly h = LimitOrderly h.limit h.store

limited_orderly : (st : Store) (l : LineState) (x : Option Code × Store) → Sayable l → Orderly (graph_of st) [] [] → with_line st l ≡ x → HeldOrderly (limited x.1 x.0 l.at)
limited_orderly st l x s o e = by x.0 refl
  where
    by : (c : Option Code) → x.0 ≡ c → HeldOrderly (limited x.1 x.0 l.at)
    by (Some c) f = subst (λ o. HeldOrderly (limited x.1 o l.at)) (sym f) tt
    by None f = subst (λ o. HeldOrderly (limited x.1 o l.at)) (sym f) (line_step st l x.1 s (e ∙ ap (λ o. (o, x.1)) f) o)

held_step : (h : Held) (l : LineState) → Sayable l → HeldOrderly h → HeldOrderly (held_after h l)
held_step h l s ok = by h.limit refl
  where
    by : (o : Option Refusal) → h.limit ≡ o → HeldOrderly (held_after h l)
    by (Some r) e = subst HeldOrderly (sym (ap (λ o. held_by (is_some o) h l) e)) ok
    by None e = subst HeldOrderly (sym (ap (λ o. held_by (is_some o) h l) e)) (limited_orderly h.store l (with_line h.store l) s (subst (λ o. LimitOrderly o h.store) e ok) refl)

held_orderly : (k : Kind) (l : LineState) (h : Held) (chars : List ℕ) (at : ℕ) → LineOk l.expect l → code_at l k chars ≡ None → HeldOrderly h → HeldOrderly (held_behind k (line_after l k chars at) h)
held_orderly kind.Dot l h chars at ok c held = held_step h (line_after l kind.Dot chars at) (dot_ok l.expect l chars at ok c) held
held_orderly _ l h chars at ok c held = held

stop_orderly : (b : Bool) (o : Option Refusal) (st : Store) (end : ℕ) (r : Records) → cond b (unless o (Read (records_of st))) (Refuse G3 end) ≡ Read r → LimitOrderly o st → AreOrderly r
stop_orderly true None st end r e ok = subst AreOrderly (read_same (records_of st) r e) (are_orderly (graph_of st) ok)
stop_orderly true (Some x) st end r e ok = absurd (refused_not x.code x.at r e)
stop_orderly false o st end r e ok = absurd (refused_not G3 end r e)

judge_orderly : (i : Items) (l : LineState) (h : Held) (r : Records) → AreTokens i → LineOk l.expect l → HeldOrderly h → judge l h i ≡ Read r → AreOrderly r
judge_orderly (Stop end) l h r t ok held e = stop_orderly _ h.limit h.store end r e held
judge_orderly (Bad at) l h r t ok held e = absurd (refused_not _ at r e)
judge_orderly (TooLong at) l h r t ok held e = absurd (refused_not _ at r e)
judge_orderly (Item k chars at rest) l h r t ok held e = by (code_at l k chars) refl
    (λ c d. judge_orderly rest (line_after l k chars at) (held_behind k (line_after l k chars at) h) r t.1 (line_ok l.expect k l chars at ok t.0 c) (held_orderly k l h chars at ok c held) d)
  where
    by : (o : Option Code) → code_at l k chars ≡ o
        → (code_at l k chars ≡ None → judge (line_after l k chars at) (held_behind k (line_after l k chars at) h) rest ≡ Read r → AreOrderly r) → AreOrderly r
    by (Some c) f go = absurd (refused_not c at r (ap (λ o. by_code o at (judge (line_after l k chars at) (held_behind k (line_after l k chars at) h) rest)) (sym f) ∙ e))
    by None f go = go f (ap (λ o. by_code o at (judge (line_after l k chars at) (held_behind k (line_after l k chars at) h) rest)) (sym f) ∙ e)

pub lines_orderly : (bytes : List ℕ) (r : Records) → answer bytes ≡ Read r → AreOrderly r
lines_orderly bytes r e = by (decoded steps.start bytes) refl e
  where
    whole : (cs : List ℕ) → Decodes bytes (decoded steps.start bytes) → decoded steps.start bytes ≡ Chars cs → IsChars cs bytes
    whole cs d f = subst (Decodes bytes) f d

    by : (d : Decoded) → decoded steps.start bytes ≡ d → by_decoded d text_answer ≡ Read r → AreOrderly r
    by (Chars cs) f e =
        let good : scalars cs ≡ true = (whole cs (decoded_right bytes (chars_are_bytes bytes cs f)) f).0 in
        judge_orderly (items Beginning 0 cs 0) no_line nothing r (are_tokens (items Beginning 0 cs 0) Beginning cs 0 good (texts_say scanner right Beginning cs 0 (scalars_chars cs good))) tt
        (record { unfull = refl; fine = refl; numbered = refl; keeps = tt; iris = once_none; literals = once_none; triples = once_none; nodes = tt; labels = tt; few = omega arith; short = omega arith }) e
    by (BadAt place) f e = absurd (refused_not _ place r e)
