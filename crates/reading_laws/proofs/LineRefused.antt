-- A text of N-Triples is refused exactly for its cause, and read exactly where it has none.
use Rattle.std.proofs.Common.{ℕ, List, [], ◌∷◌, ◌++◌, ◌≡◌, ◌⊎◌, ◌↔◌, Bool, true, false, cond, refl, ap, ap₂, sym, ◌∙◌, subst, inl, inr, arith, true≢false, append_assoc, append-nil}
use Rattle.std.proofs.lemmas.Bool.{false≢true, cases_Bool}
use Rattle.std.specs.Prelude.{Option, None, Some}
use Rattle.rdf_chars.specs.Steps as steps
use Rattle.rdf_chars.specs.Decoding.{Decoded, decoded}
use Rattle.rdf_chars.specs.Decoding.Decoded.{Chars, BadAt}
use Rattle.rdf_terms.specs.declared.terms.Code.{Code}
use Rattle.rdf_terms.specs.declared.terms.Code.TheVariants.{U1, G1, G2, G3, L2}
use Rattle.rdf_terms.specs.declared.terms.Refusal.{Refusal}
use Rattle.rdf_terms.specs.declared.triples.Records.{Records}
use Rattle.ntriples_tokens.specs.declared.kinds.Kind.{Kind}
use Rattle.ntriples_tokens.specs.declared.kinds.Kind.TheVariants as kind
use Rattle.token_scanner.specs.declared.place.Place.TheVariants.{Beginning}
use Rattle.ntriples_tokens.specs.Scanning.{Items, items}
use Rattle.token_scanner.specs.Items.Items.{Stop, Bad, TooLong, Item}
use Rattle.ntriples_reader.specs.declared.line.Expect.{Expect}
use Rattle.ntriples_reader.specs.declared.line.Expect.TheVariants as expect
use Rattle.ntriples_reader.specs.declared.store.Held.{Held}
use Rattle.ntriples_reader.specs.Lines.{LineState, no_line, next, is_between, with_token, token_code, code_by, code_at, line_after}
use Rattle.ntriples_reader.specs.Storing.{nothing}
use Rattle.rdf_reading.specs.Answers.{Answer, unless}
use Rattle.ntriples_reader.specs.Answers.{records_of, held_behind, judge, text_answer}
use Rattle.ntriples_reader.specs.Answers as answers
use Rattle.rdf_reading.specs.Answers as reading
use Rattle.rdf_reading.specs.Answers.Answer.{Refuse, Read}
use Rattle.ntriples_reader.specs.Feeding.{answer, by_decoded}
use Rattle.ntriples_laws.specs.Grammar.{Document, document}
use Rattle.ntriples_laws.specs.Runs.{step, run, may_end, is_whole}
use Rattle.ntriples_laws.proofs.Trees.{whole_is_document, document_is_whole}
use Rattle.ntriples_laws.proofs.Treed.{expected}
use Rattle.reading_laws.specs.Telling.{Statement}
use Rattle.reading_laws.specs.Counting.{records, IsSmall, IsLimit}
use Rattle.reading_laws.specs.Lines.{LineToken, kinds, IsCut, Viable, IsFault, AreFine, behind, with_dot, triple_lines, statement, line_labels, lines_tell, told, Stops, LinesRefusal, LinesSay}
use Rattle.reading_laws.proofs.Limits.{not_small, limit_one}
use Rattle.reading_laws.proofs.LineTold.{HeldTold, held_told}

abbrev Taken : LineState → List LineToken → Type 0
Taken l [] = Unit {0}
Taken l (t ∷ ts) = (code_at l t.kind t.chars ≡ None) × Taken (behind l t) ts

abbrev read : LineState → List LineToken → LineState
read l [] = l
read l (t ∷ ts) = read (behind l t) ts

abbrev held_read : LineState → Held → List LineToken → Held
held_read l h [] = h
held_read l h (t ∷ ts) = held_read (behind l t) (held_behind t.kind (behind l t) h) ts

judge_cut : (i : Items) (ts : List LineToken) (rest : Items) (l : LineState) (h : Held) → IsCut i ts rest → Taken l ts → judge l h i ≡ judge (read l ts) (held_read l h ts) rest
judge_cut i [] rest l h c k = ap (judge l h) c
judge_cut (Item q chars at i) (t ∷ ts) rest l h c k =
    let u : LineToken = record { kind = q; chars = chars; at = at } in
    ap (λ o. reading.by_code o at (judge (behind l u) (held_behind q (behind l u) h) i)) (ap (λ x. code_at l x.kind x.chars) (sym c.0) ∙ k.0)
    ∙ ap (λ x. judge (behind l x) (held_behind x.kind (behind l x) h) i) (sym c.0)
    ∙ judge_cut i ts rest (behind l t) (held_behind t.kind (behind l t) h) c.1 k.1
judge_cut (Stop end) (t ∷ ts) rest l h c k = absurd c
judge_cut (Bad at) (t ∷ ts) rest l h c k = absurd c
judge_cut (TooLong at) (t ∷ ts) rest l h c k = absurd c

-- the grammar goes with the tokens that are taken
run_taken : (ts : List LineToken) (l : LineState) → Taken l ts → run (Some l.expect) (kinds ts) ≡ Some (read l ts).expect
run_taken [] l k = refl
run_taken (t ∷ ts) l k =
    ap (λ o. run o (kinds ts)) (expected (next l.expect t.kind) l (with_token t.kind l t.chars t.at) (token_code t.kind t.chars) k.0) ∙ run_taken ts (behind l t) k.1

run_append : (o : Option Expect) (ks ls : List Kind) → run o (ks ++ ls) ≡ run (run o ks) ls
run_append o [] ls = refl
run_append o (k ∷ ks) ls = run_append (step o k) ks ls

run_none : (ks : List Kind) → run None ks ≡ None
run_none [] = refl
run_none (k ∷ ks) = run_none ks

completed : (e : Expect) → (more : List Kind) × (may_end (run (Some e) more) ≡ true)
completed expect.Start = ([], refl)
completed expect.Subject = (kind.IriRef ∷ kind.IriRef ∷ kind.Dot ∷ [], refl)
completed expect.Predicate = (kind.IriRef ∷ kind.Dot ∷ [], refl)
completed expect.Quoted = (kind.Dot ∷ [], refl)
completed expect.Typed = (kind.IriRef ∷ kind.Dot ∷ [], refl)
completed expect.Object = (kind.Dot ∷ [], refl)
completed expect.End = ([], refl)

viable : (ks : List Kind) (e : Expect) → run (Some expect.Start) ks ≡ Some e → Viable ks
viable ks e h =
    let m = completed e in
    let d = whole_is_document (ks ++ m.0) (ap may_end (run_append (Some expect.Start) ks m.0) ∙ ap (λ o. may_end (run o m.0)) h ∙ m.1) in
    (m.0, d.0, d.1)

not_viable : (ks : List Kind) → run (Some expect.Start) ks ≡ None → Viable ks → ⊥
not_viable ks h (more, d, e) =
    false≢true (sym (ap may_end (ap (run (Some expect.Start)) (sym e) ∙ run_append (Some expect.Start) ks more ∙ ap (λ o. run o more) h ∙ run_none more)) ∙ document_is_whole d)

behind_run : (ts : List LineToken) (t : LineToken) → Taken no_line ts → run (Some expect.Start) (kinds ts ++ t.kind ∷ []) ≡ next (read no_line ts).expect t.kind
behind_run ts t k = run_append (Some expect.Start) (kinds ts) (t.kind ∷ []) ∙ ap (λ o. step o t.kind) (run_taken ts no_line k)

some_same : (a b : Code) → Some a ≡ Some b → a ≡ b
some_same a b e = cc e

none_not : (c : Code) → ◌≡◌ {A = Option Code} (Some c) None → ⊥
none_not c e = cc e

fault_of : (ts : List LineToken) (t : LineToken) (code : Code) → Taken no_line ts → code_at (read no_line ts) t.kind t.chars ≡ Some code → IsFault ts t code
fault_of ts t code k h = by (next (read no_line ts).expect t.kind) refl h
  where
    by : (o : Option Expect) → next (read no_line ts).expect t.kind ≡ o → code_by o (token_code t.kind t.chars) ≡ Some code → IsFault ts t code
    by None e f = inl (sym (some_same G2 code f), not_viable (kinds ts ++ t.kind ∷ []) (behind_run ts t k ∙ e))
    by (Some x) e f = inr (viable (kinds ts ++ t.kind ∷ []) x (behind_run ts t k ∙ e), f)

code_of : (ts : List LineToken) (t : LineToken) (code : Code) → Taken no_line ts → IsFault ts t code → code_at (read no_line ts) t.kind t.chars ≡ Some code
code_of ts t code k f = ap (λ o. code_by o (token_code t.kind t.chars)) refl ∙ by (next (read no_line ts).expect t.kind) refl f
  where
    by : (o : Option Expect) → next (read no_line ts).expect t.kind ≡ o → IsFault ts t code → code_by o (token_code t.kind t.chars) ≡ Some code
    by None e (inl a) = ap (λ c. Some c) (sym a.0)
    by None e (inr a) = absurd (not_viable (kinds ts ++ t.kind ∷ []) (behind_run ts t k ∙ e) a.0)
    by (Some x) e (inl a) = absurd (a.1 (viable (kinds ts ++ t.kind ∷ []) x (behind_run ts t k ∙ e)))
    by (Some x) e (inr a) = a.1

taken_push : (us : List LineToken) (t : LineToken) (l : LineState) → Taken l us → code_at (read l us) t.kind t.chars ≡ None → Taken l (us ++ t ∷ [])
taken_push [] t l k c = (c, tt)
taken_push (u ∷ us) t l k c = (k.0, taken_push us t (behind l u) k.1 c)

taken_front : (us vs : List LineToken) (l : LineState) → Taken l (us ++ vs) → Taken l us
taken_front [] vs l k = tt
taken_front (u ∷ us) vs l k = (k.0, taken_front us vs (behind l u) k.1)

taken_at : (us vs : List LineToken) (t : LineToken) (l : LineState) → Taken l (us ++ t ∷ vs) → code_at (read l us) t.kind t.chars ≡ None
taken_at [] vs t l k = k.0
taken_at (u ∷ us) vs t l k = taken_at us vs t (behind l u) k.1

fine_taken : (vs us : List LineToken) → Taken no_line us → AreFine (us ++ vs) → Taken no_line (us ++ vs)
fine_taken [] us k f = subst (Taken no_line) (sym (append-nil us)) k
fine_taken (t ∷ vs) us k f = by (code_at (read no_line us) t.kind t.chars) refl (λ c. fine_taken vs (us ++ t ∷ []) (taken_push us t no_line k c))
  where
    by : (o : Option Code) → code_at (read no_line us) t.kind t.chars ≡ o → (code_at (read no_line us) t.kind t.chars ≡ None → AreFine ((us ++ t ∷ []) ++ vs) → Taken no_line ((us ++ t ∷ []) ++ vs)) → Taken no_line (us ++ t ∷ vs)
    by None e go = subst (Taken no_line) (append_assoc us (t ∷ []) vs) (go e (subst AreFine (sym (append_assoc us (t ∷ []) vs)) f))
    by (Some c) e go = absurd (f us vs t c refl (fault_of us t c k e))

taken_fine : (ts : List LineToken) → Taken no_line ts → AreFine ts
taken_fine ts k us vs t code e f =
    let whole : Taken no_line (us ++ t ∷ vs) = subst (Taken no_line) e k in
    none_not code (sym (code_of us t code (taken_front us (t ∷ vs) no_line whole) f) ∙ taken_at us vs t no_line whole)

-- what is held is what is told
held_lines : (ts : List LineToken) (l : LineState) (h : Held) (xs : List Statement) (labels : List (List ℕ)) → HeldTold h xs labels
    → (ls : List (List ℕ)) × HeldTold (held_read l h ts) (xs ++ lines_tell labels (triple_lines l ts)) ls
held_lines [] l h xs labels k = (labels, subst (λ ys. HeldTold h ys labels) (sym (append-nil xs)) k)
held_lines (t ∷ ts) l h xs labels k = by t.kind (λ g ys ls j. held_lines ts (behind l t) g ys ls j)
  where
    by : (q : Kind) → ((g : Held) (ys : List Statement) (ls : List (List ℕ)) → HeldTold g ys ls → (ms : List (List ℕ)) × HeldTold (held_read (behind l t) g ts) (ys ++ lines_tell ls (triple_lines (behind l t) ts)) ms)
        → (ls : List (List ℕ)) × HeldTold (held_read (behind l t) (held_behind q (behind l t) h) ts) (xs ++ lines_tell labels (with_dot q (behind l t) (triple_lines (behind l t) ts))) ls
    by kind.Dot go =
        let w : Statement = statement labels (behind l t) in
        let r = go (held_behind kind.Dot (behind l t) h) (xs ++ w ∷ []) (line_labels labels (behind l t)) (held_told h (behind l t) xs labels k) in
        (r.0, subst (λ ys. HeldTold (held_read (behind l t) (held_behind kind.Dot (behind l t) h) ts) ys r.0) (append_assoc xs (w ∷ []) (lines_tell (line_labels labels (behind l t)) (triple_lines (behind l t) ts))) r.1)
    by _ go = go h xs labels k

abbrev final : List LineToken → Held
final ts = held_read no_line nothing ts

held_all : (ts : List LineToken) → (ls : List (List ℕ)) × HeldTold (final ts) (told ts) ls
held_all ts = held_lines ts no_line nothing [] [] (inl (refl, record { names = refl; triples = refl; labels_are = refl; small = (omega arith, omega arith) }))

limit_stands : (ts : List LineToken) (code : Code) (at : ℕ) → IsLimit (told ts) code at → (final ts).limit ≡ Some (record { code = code; at = at })
limit_stands ts code at h = by (held_all ts).1 h
  where
    by : HeldTold (final ts) (told ts) (held_all ts).0 → IsLimit (told ts) code at → (final ts).limit ≡ Some (record { code = code; at = at })
    by (inl f) (a, x, r, e, small, passes, p) = absurd (not_small a r x code passes (subst (λ z. IsSmall (records z)) e f.1.small))
    by (inr (c, to, e, l)) h = let one = limit_one (told ts) c code to at l h in e ∙ ap₂ (λ x y. Some (record { code = x; at = y })) one.0 one.1

refusal_same : (a b : Refusal) → Some a ≡ Some b → a ≡ b
refusal_same a b e = cc e

none_refusal : (a : Refusal) → None ≡ Some a → ⊥
none_refusal a e = cc e

limit_told : (ts : List LineToken) (code : Code) (at : ℕ) → (final ts).limit ≡ Some (record { code = code; at = at }) → IsLimit (told ts) code at
limit_told ts code at h = by (held_all ts).1
  where
    by : HeldTold (final ts) (told ts) (held_all ts).0 → IsLimit (told ts) code at
    by (inl f) = absurd (none_refusal (record { code = code; at = at }) (sym f.0 ∙ h))
    by (inr (c, to, e, l)) = subst (λ r. IsLimit (told ts) r.code r.at) (refusal_same (record { code = c; at = to }) (record { code = code; at = at }) (sym e ∙ h)) l

small_told : (ts : List LineToken) → (final ts).limit ≡ None → IsSmall (records (told ts)) × (records_of (final ts).store ≡ records (told ts))
small_told ts h = by (held_all ts).1
  where
    by : HeldTold (final ts) (told ts) (held_all ts).0 → IsSmall (records (told ts)) × (records_of (final ts).store ≡ records (told ts))
    by (inl f) = (f.1.small, ap₂ (λ x y. record { names = x; triples = y }) f.1.names f.1.triples)
    by (inr (c, to, e, l)) = absurd (none_refusal (record { code = c; at = to }) (sym h ∙ e))

small_stands : (ts : List LineToken) → IsSmall (records (told ts)) → (final ts).limit ≡ None
small_stands ts small = by (held_all ts).1
  where
    by : HeldTold (final ts) (told ts) (held_all ts).0 → (final ts).limit ≡ None
    by (inl f) = f.0
    by (inr (c, to, e, (a, x, r, g, tiny, passes, p))) = absurd (not_small a r x c passes (subst (λ z. IsSmall (records z)) g small))

-- where the text ends
between_whole : (ts : List LineToken) → Taken no_line ts → is_whole (kinds ts) ≡ is_between (read no_line ts).expect
between_whole ts k = ap may_end (run_taken ts no_line k)

document_between : (ts : List LineToken) (d : Document) → Taken no_line ts → kinds ts ≡ document d → is_between (read no_line ts).expect ≡ true
document_between ts d k e = sym (between_whole ts k) ∙ ap is_whole e ∙ document_is_whole d

abbrev end_answer : Bool → List LineToken → ℕ → Answer
end_answer b ts end = cond b (unless (final ts).limit (Read (records_of (final ts).store))) (Refuse G3 end)

stop_answer : (ts : List LineToken) (rest : Items) (code : Code) (at : ℕ) → Taken no_line ts → Stops ts rest code at → judge (read no_line ts) (final ts) rest ≡ Refuse code at
stop_answer ts (Bad place) code at k s = ap₂ (λ x y. Refuse x y) (sym s.0) (sym s.1)
stop_answer ts (TooLong place) code at k s = ap₂ (λ x y. Refuse x y) (sym s.0) (sym s.1)
stop_answer ts (Item q chars place rest) code at k s =
    let t : LineToken = record { kind = q; chars = chars; at = place } in
    ap (λ o. reading.by_code o place (judge (behind (read no_line ts) t) (held_behind q (behind (read no_line ts) t) (final ts)) rest)) (code_of ts t code k s.1) ∙ ap (λ y. Refuse code y) (sym s.0)
stop_answer ts (Stop end) code at k (inl (g, p, none)) = elim (cases_Bool (is_between (read no_line ts).expect)) [
  | inl h ↦ let x = whole_is_document (kinds ts) (between_whole ts k ∙ h) in absurd (none x.0 x.1)
  | inr h ↦ ap (λ b. end_answer b ts end) h ∙ ap₂ (λ x y. Refuse x y) (sym g) (sym p)
]
stop_answer ts (Stop end) code at k (inr (d, e, l)) =
    ap (λ b. end_answer b ts end) (document_between ts d k e) ∙ ap (λ o. unless o (Read (records_of (final ts).store))) (limit_stands ts code at l)

by_chars : (bytes chars : List ℕ) → decoded steps.start bytes ≡ Chars chars → answer bytes ≡ judge no_line nothing (items Beginning 0 chars 0)
by_chars bytes chars e = ap (λ d. by_decoded d text_answer) e

refusal_answer : (bytes : List ℕ) (code : Code) (at : ℕ) → LinesRefusal bytes code at → answer bytes ≡ Refuse code at
refusal_answer bytes code at (inl (u, e)) = ap (λ d. by_decoded d text_answer) e ∙ ap (λ x. Refuse x at) (sym u)
refusal_answer bytes code at (inr (chars, ts, rest, e, cut, fine, stops)) =
    let k = fine_taken ts [] tt fine in
    by_chars bytes chars e ∙ judge_cut (items Beginning 0 chars 0) ts rest no_line nothing cut k ∙ stop_answer ts rest code at k stops

-- how far a text is taken
record Path (i : Items) (l : LineState) (h : Held) : Type 0 where
  tokens : List LineToken
  rest : Items
  cut : IsCut i tokens rest
  taken : Taken l tokens
  stops : (k : Kind) (chars : List ℕ) (at : ℕ) (more : Items) → rest ≡ Item k chars at more → (c : Code) × (code_at (read l tokens) k chars ≡ Some c)

path : (i : Items) (l : LineState) (h : Held) → Path i l h
path (Stop end) l h = record { tokens = []; rest = Stop end; cut = refl; taken = tt; stops = λ k chars at more e. absurd (cc e) }
path (Bad at) l h = record { tokens = []; rest = Bad at; cut = refl; taken = tt; stops = λ k chars at more e. absurd (cc e) }
path (TooLong at) l h = record { tokens = []; rest = TooLong at; cut = refl; taken = tt; stops = λ k chars at more e. absurd (cc e) }
path (Item q chars at i) l h = by (code_at l q chars) refl (path i (line_after l q chars at) (held_behind q (line_after l q chars at) h))
  where
    by : (o : Option Code) → code_at l q chars ≡ o → Path i (line_after l q chars at) (held_behind q (line_after l q chars at) h) → Path (Item q chars at i) l h
    by None e p = record { tokens = record { kind = q; chars = chars; at = at } ∷ p.tokens; rest = p.rest; cut = (refl, p.cut); taken = (e, p.taken); stops = p.stops }
    by (Some c) e p = record {
      tokens = [];
      rest = Item q chars at i;
      cut = refl;
      taken = tt;
      stops = λ k ds to more f. let a : q ≡ k = cc f in let b : chars ≡ ds = cc f in (c, ap₂ (λ x y. code_at l x y) (sym a) (sym b) ∙ e);
    }

refuse_code : (a b : Code) (x y : ℕ) → ◌≡◌ {A = Answer} (Refuse a x) (Refuse b y) → (a ≡ b) × (x ≡ y)
refuse_code a b x y e = (cc e, cc e)

end_refused : (b : Bool) (o : Option Refusal) (r : Records) (end : ℕ) (code : Code) (at : ℕ) → cond b (unless o (Read r)) (Refuse G3 end) ≡ Refuse code at
    → ((b ≡ false) × (code ≡ G3) × (at ≡ end)) ⊎ ((b ≡ true) × (o ≡ Some (record { code = code; at = at })))
end_refused true None r end code at e = absurd (cc e)
end_refused true (Some x) r end code at e = let s = refuse_code x.code code x.at at e in inr (refl, ap₂ (λ a b. Some (record { code = a; at = b })) s.0 s.1)
end_refused false o r end code at e = let s = refuse_code G3 code end at e in inl (refl, sym s.0, sym s.1)

no_document : (ts : List LineToken) → Taken no_line ts → is_between (read no_line ts).expect ≡ false → (d : Document) → kinds ts ≡ document d → ⊥
no_document ts k h d e = true≢false (sym (document_between ts d k e) ∙ h)

stops_of : (ts : List LineToken) (rest : Items) (code : Code) (at : ℕ) → Taken no_line ts → ((k : Kind) (chars : List ℕ) (to : ℕ) (more : Items) → rest ≡ Item k chars to more → (c : Code) × (code_at (read no_line ts) k chars ≡ Some c))
    → judge (read no_line ts) (final ts) rest ≡ Refuse code at → Stops ts rest code at
stops_of ts (Bad place) code at k s e = let r = refuse_code G1 code place at e in (sym r.0, sym r.1)
stops_of ts (TooLong place) code at k s e = let r = refuse_code L2 code place at e in (sym r.0, sym r.1)
stops_of ts (Item q chars place rest) code at k s e =
    let t : LineToken = record { kind = q; chars = chars; at = place } in
    let c = s q chars place rest refl in
    let r = refuse_code c.0 code place at (sym (ap (λ o. reading.by_code o place (judge (behind (read no_line ts) t) (held_behind q (behind (read no_line ts) t) (final ts)) rest)) c.1) ∙ e) in
    (sym r.1, fault_of ts t code k (c.1 ∙ ap (λ x. Some x) r.0))
stops_of ts (Stop end) code at k s e = elim (end_refused (is_between (read no_line ts).expect) (final ts).limit (records_of (final ts).store) end code at e) [
  | inl a ↦ inl (a.1, a.2, no_document ts k a.0)
  | inr a ↦ let x = whole_is_document (kinds ts) (between_whole ts k ∙ a.0) in inr (x.0, x.1, limit_told ts code at a.1)
]

answer_refusal : (bytes : List ℕ) (code : Code) (at : ℕ) → answer bytes ≡ Refuse code at → LinesRefusal bytes code at
answer_refusal bytes code at e = by (decoded steps.start bytes) refl e
  where
    by : (d : Decoded) → decoded steps.start bytes ≡ d → by_decoded d text_answer ≡ Refuse code at → LinesRefusal bytes code at
    by (BadAt place) f g = let r = refuse_code U1 code place at g in inl (sym r.0, f ∙ ap (λ x. BadAt x) r.1)
    by (Chars chars) f g =
        let i : Items = items Beginning 0 chars 0 in
        let p = path i no_line nothing in
        inr (chars, p.tokens, p.rest, f, p.cut, taken_fine p.tokens p.taken, stops_of p.tokens p.rest code at p.taken p.stops (sym (judge_cut i p.tokens p.rest no_line nothing p.cut p.taken) ∙ g))

-- a text that is read
end_read : (b : Bool) (o : Option Refusal) (q r : Records) (end : ℕ) → cond b (unless o (Read q)) (Refuse G3 end) ≡ Read r → (b ≡ true) × (o ≡ None) × (q ≡ r)
end_read true None q r end e = (refl, refl, cc e)
end_read true (Some x) q r end e = absurd (cc e)
end_read false o q r end e = absurd (cc e)

says_of : (bytes chars : List ℕ) (ts : List LineToken) (rest : Items) (r : Records) → decoded steps.start bytes ≡ Chars chars → IsCut (items Beginning 0 chars 0) ts rest → Taken no_line ts
    → ((k : Kind) (cs : List ℕ) (to : ℕ) (more : Items) → rest ≡ Item k cs to more → (c : Code) × (code_at (read no_line ts) k cs ≡ Some c)) → judge (read no_line ts) (final ts) rest ≡ Read r → LinesSay bytes r
says_of bytes chars ts (Bad place) r f cut k s e = absurd (cc e)
says_of bytes chars ts (TooLong place) r f cut k s e = absurd (cc e)
says_of bytes chars ts (Item q cs place rest) r f cut k s e =
    let t : LineToken = record { kind = q; chars = cs; at = place } in
    let c = s q cs place rest refl in
    let g : Refuse c.0 place ≡ Read r = sym (ap (λ o. reading.by_code o place (judge (behind (read no_line ts) t) (held_behind q (behind (read no_line ts) t) (final ts)) rest)) c.1) ∙ e in
    absurd (cc g)
says_of bytes chars ts (Stop end) r f cut k s e =
    let a = end_read (is_between (read no_line ts).expect) (final ts).limit (records_of (final ts).store) r end e in
    let x = whole_is_document (kinds ts) (between_whole ts k ∙ a.0) in
    let small = small_told ts a.1 in
    (chars, ts, end, x.0, f, cut, x.1, taken_fine ts k, small.0, sym a.2 ∙ small.1)

answer_says : (bytes : List ℕ) (r : Records) → answer bytes ≡ Read r → LinesSay bytes r
answer_says bytes r e = by (decoded steps.start bytes) refl e
  where
    by : (d : Decoded) → decoded steps.start bytes ≡ d → by_decoded d text_answer ≡ Read r → LinesSay bytes r
    by (BadAt place) f g = absurd (cc g)
    by (Chars chars) f g =
        let i : Items = items Beginning 0 chars 0 in
        let p = path i no_line nothing in
        says_of bytes chars p.tokens p.rest r f p.cut p.taken p.stops (sym (judge_cut i p.tokens p.rest no_line nothing p.cut p.taken) ∙ g)

says_answer : (bytes : List ℕ) (r : Records) → LinesSay bytes r → answer bytes ≡ Read r
says_answer bytes r (chars, ts, end, d, e, cut, w, fine, small, is) =
    let k = fine_taken ts [] tt fine in
    let limit = small_stands ts small in
    by_chars bytes chars e ∙ judge_cut (items Beginning 0 chars 0) ts (Stop end) no_line nothing cut k
    ∙ ap (λ b. end_answer b ts end) (document_between ts d k w)
    ∙ ap (λ o. unless o (Read (records_of (final ts).store))) limit
    ∙ ap (λ x. Read x) ((small_told ts limit).1 ∙ sym is)

pub lines_refused_exactly : (bytes : List ℕ) (code : Code) (at : ℕ) → (answer bytes ≡ Refuse code at) ↔ LinesRefusal bytes code at
lines_refused_exactly bytes code at = (answer_refusal bytes code at, refusal_answer bytes code at)

pub lines_read_exactly : (bytes : List ℕ) (r : Records) → (answer bytes ≡ Read r) ↔ LinesSay bytes r
lines_read_exactly bytes r = (answer_says bytes r, says_answer bytes r)
