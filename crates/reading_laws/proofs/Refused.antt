-- A text is refused exactly for its cause, and read exactly where it has none.
use Rattle.std.proofs.Common.{ℕ, List, [], ◌∷◌, ◌++◌, ◌≡◌, ◌↔◌, true, false, cond, length, refl, ap, ap₂, sym, ◌∙◌, subst, inl, inr, append_assoc, append-nil}
use Rattle.std.proofs.lemmas.Bool.{false≢true, cases_Bool}
use Rattle.std.specs.Prelude.{Option, None, Some}
use Rattle.rdf_terms.specs.declared.terms.Code.{Code}
use Rattle.rdf_terms.specs.declared.terms.Code.TheVariants.{U1, G3}
use Rattle.rdf_terms.specs.declared.triples.Records.{Records}
use Rattle.rdf_reading.specs.Answers.{unless, by_code}
use Rattle.rdf_reading.specs.Answers.Answer.{Refuse, Read}
use Rattle.turtle_grammar.specs.declared.states.Step.{Step}
use Rattle.turtle_grammar.specs.declared.states.Step.TheVariants.{Stay, Push, Pop, Refused}
use Rattle.turtle_grammar.specs.Machine.{next}
use Rattle.turtle_grammar.specs.Tokens.{Token, terminal_of}
use Rattle.turtle_grammar.specs.Tokens as grammar
use Rattle.turtle_grammar.specs.Grammar.{Document, document, Viable}
use Rattle.turtle_grammar.specs.Runs.{advance, run, start}
use Rattle.turtle_grammar.proofs.Whole.{viable_to, document_to}
use Rattle.turtle_lexer.specs.Streams.{Stream, Ahead, tokens}
use Rattle.turtle_lexer.specs.Streams.Stream.{Ends, NoToken, Overlong, Given}
use Rattle.turtle_lexer.specs.Streams.Ahead.{NotUtf8, Tokens}
use Rattle.turtle_environments.specs.Words.{token_by}
use Rattle.turtle_documents.specs.Documents as spec
use Rattle.turtle_documents.specs.Documents.{DocumentState, beginning, is_statement, top_frame, token_code, after_token}
use Rattle.turtle_reader.specs.Answers.{judge, by_ahead, records_of, environment, answer}
use Rattle.reading_laws.specs.Spelling.{IsCut}
use Rattle.reading_laws.specs.Refusals.{read_on, read_from, is_opening, open_behind, IsTokenFault, IsEndFault}
use Rattle.reading_laws.specs.Refusals as old
use Rattle.reading_laws.proofs.Stacks.{frames}
use Rattle.reading_laws.proofs.Steps.{config, code_none}
use Rattle.reading_laws.proofs.Documented.{document_store}
use Rattle.reading_laws.proofs.Paths.{Taken, Stop, judge_path, taken_run, taken_front, token_fault, no_fault, fault, is_document, start_is, behind}
use Rattle.reading_laws.specs.Directives.{outset, all_behind}
use Rattle.reading_laws.specs.Refusal.{IsFault, AreFine, Stops, Refusal, Says}
use Rattle.reading_laws.proofs.Limits.{said, limit_told, limit_stands, small_told, small_stands}
use Rattle.reading_laws.proofs.Directed.{Stands, all_stand, is_refused, code_same}
use Rattle.reading_laws.proofs.Turtled.{is_read}

abbrev first : Option (List ℕ) → DocumentState
first base = beginning (environment base)

stands : (base : Option (List ℕ)) (ts : List Token) → Taken (first base) ts → Stands (read_from base ts) (all_behind (outset (environment base)) ts)
stands base ts k = all_stand ts (first base) (outset (environment base)) k (record { part = refl; prefix = λ h. absurd (cc h); environment = refl })

runs : (base : Option (List ℕ)) (ts : List Token) → Taken (first base) ts → run start ts ≡ config (read_from base ts)
runs base ts k = taken_run ts (first base) k

-- a token with which a document begins is not refused
alive : (base : Option (List ℕ)) (ts : List Token) (t : Token) → Taken (first base) ts → Viable (ts ++ t ∷ [])
    → is_refused (next (read_from base ts).state (top_frame (read_from base ts).stack) (terminal_of t)) ≡ false
alive base ts t k v = by (next d.state (top_frame d.stack) (terminal_of t)) refl
  where
    d : DocumentState
    d = read_from base ts

    by : (s : Step) → next (read_from base ts).state (top_frame (read_from base ts).stack) (terminal_of t) ≡ s → is_refused s ≡ false
    by Refused e = absurd (viable_to (ts ++ t ∷ []) (behind ts (read_from base ts) t (runs base ts k) ∙ ap (λ s. advance s (frames (read_from base ts).stack)) e) v)
    by (Push f r) e = refl
    by (Pop r) e = refl
    by (Stay r) e = refl

fault_to : (base : Option (List ℕ)) (ts : List Token) (t : Token) (code : Code) → Taken (first base) ts → IsTokenFault base ts t code → IsFault base ts t code
fault_to base ts t code k (inl a) = inl a
fault_to base ts t code k (inr (inl a)) = inr (inl a)
fault_to base ts t code k (inr (inr a)) = inr (inr (a.0, sym (code_same (read_from base ts) (all_behind (outset (environment base)) ts) t (alive base ts t k a.0) (stands base ts k)) ∙ a.1))

fault_from : (base : Option (List ℕ)) (ts : List Token) (t : Token) (code : Code) → Taken (first base) ts → IsFault base ts t code → IsTokenFault base ts t code
fault_from base ts t code k (inl a) = inl a
fault_from base ts t code k (inr (inl a)) = inr (inl a)
fault_from base ts t code k (inr (inr a)) = inr (inr (a.0, code_same (read_from base ts) (all_behind (outset (environment base)) ts) t (alive base ts t k a.0) (stands base ts k) ∙ a.1))

-- a token has one fault at most
opening_not : (d : DocumentState) (t : Token) (code : Code) → is_opening t ≡ true → spec.stay_code d t ≡ Some code → ⊥
unfolding spec.stay_code
opening_not d (grammar.Token.Name f v) code o e = false≢true o
opening_not d _ code o e = code_none code (sym e)

fault_one : (base : Option (List ℕ)) (ts : List Token) (t : Token) (c e : Code) → IsTokenFault base ts t c → IsTokenFault base ts t e → c ≡ e
fault_one base ts t c e (inl a) (inl b) = a.0 ∙ sym b.0
fault_one base ts t c e (inl a) (inr (inl b)) = absurd (a.1 b.0)
fault_one base ts t c e (inl a) (inr (inr b)) = absurd (a.1 b.0)
fault_one base ts t c e (inr (inl a)) (inl b) = absurd (b.1 a.0)
fault_one base ts t c e (inr (inl a)) (inr (inl b)) = a.1 ∙ sym b.1
fault_one base ts t c e (inr (inl a)) (inr (inr b)) = absurd (opening_not (read_from base ts) t e a.2 b.1)
fault_one base ts t c e (inr (inr a)) (inl b) = absurd (b.1 a.0)
fault_one base ts t c e (inr (inr a)) (inr (inl b)) = absurd (opening_not (read_from base ts) t c b.2 a.1)
fault_one base ts t c e (inr (inr a)) (inr (inr b)) = let f : Some c ≡ Some e = sym a.1 ∙ b.1 in cc f

-- the fault is what is answered
faulty : (base : Option (List ℕ)) (ts : List Token) (t : Token) (code : Code) → Taken (first base) ts → IsFault base ts t code → token_code (read_from base ts) t ≡ Some code
faulty base ts t code k f = by (token_code (read_from base ts) t) refl
  where
    by : (o : Option Code) → token_code (read_from base ts) t ≡ o → o ≡ Some code
    by None e = absurd (no_fault base ts t code (runs base ts k) e (fault_from base ts t code k f))
    by (Some c) e = ap (λ x. Some x) (fault_one base ts t c code (token_fault base ts t c (runs base ts k) e) (fault_from base ts t code k f))

-- tokens without fault are taken
taken_push : (us : List Token) (t : Token) (d : DocumentState) → Taken d us → token_code (read_on d us) t ≡ None → Taken d (us ++ t ∷ [])
taken_push [] t d k c = (c, tt)
taken_push (u ∷ us) t d k c = (k.0, taken_push us t (after_token d u) k.1 c)

fine_taken : (base : Option (List ℕ)) (vs us : List Token) → Taken (first base) us → AreFine base (us ++ vs) → Taken (first base) (us ++ vs)
fine_taken base [] us k f = subst (Taken (first base)) (sym (append-nil us)) k
fine_taken base (t ∷ vs) us k f = by (token_code (read_from base us) t) refl (λ c. fine_taken base vs (us ++ t ∷ []) (taken_push us t (first base) k c))
  where
    moved : (us ++ t ∷ []) ++ vs ≡ us ++ t ∷ vs
    moved = append_assoc us (t ∷ []) vs

    by : (o : Option Code) → token_code (read_from base us) t ≡ o → (token_code (read_from base us) t ≡ None → AreFine base ((us ++ t ∷ []) ++ vs) → Taken (first base) ((us ++ t ∷ []) ++ vs)) → Taken (first base) (us ++ t ∷ vs)
    by None e go = subst (Taken (first base)) (append_assoc us (t ∷ []) vs) (go e (subst (AreFine base) (sym (append_assoc us (t ∷ []) vs)) f))
    by (Some c) e go = absurd (f us vs t c refl (fault_to base us t c k (token_fault base us t c (runs base us k) e)))

taken_fine : (base : Option (List ℕ)) (ts : List Token) → Taken (first base) ts → AreFine base ts
taken_fine base ts k us vs t code e f =
    let whole : Taken (first base) (us ++ t ∷ vs) = subst (Taken (first base)) e k in
    let front : Taken (first base) us = taken_front us (t ∷ vs) (first base) whole in
    code_none code (sym (faulty base us t code front f) ∙ Rattle.reading_laws.proofs.Paths.taken_at us vs t (first base) whole)

-- what is answered where tokens were taken
judge_cut : (s : Stream) (ts : List Token) (rest : Stream) (n : ℕ) (d : DocumentState) → IsCut s ts rest → Taken d ts → judge n d s ≡ judge n (read_on d ts) rest
judge_cut s [] rest n d c k = ap (judge n d) c
judge_cut (Given kind text cut from to s) (t ∷ ts) rest n d c k =
    let u : Token = token_by kind text cut from in
    ap (λ o. by_code o from (judge n (after_token d u) s)) (ap (token_code d) (sym c.0) ∙ k.0)
    ∙ ap (λ x. judge n (after_token d x) s) (sym c.0)
    ∙ judge_cut s ts rest n (after_token d t) c.1 k.1
judge_cut (Ends at) (t ∷ ts) rest n d c k = absurd c
judge_cut (NoToken at) (t ∷ ts) rest n d c k = absurd c
judge_cut (Overlong at) (t ∷ ts) rest n d c k = absurd c

ends_document : (base : Option (List ℕ)) (ts : List Token) (d : Document) → Taken (first base) ts → ts ≡ document d → is_statement (read_from base ts).state ≡ true
ends_document base ts d k e = start_is (read_from base ts) (sym (document_to ts d e) ∙ runs base ts k)

said_limit : (base : Option (List ℕ)) (ts : List Token) (d : Document) → ts ≡ document d → (read_from base ts).store ≡ said base d
said_limit base ts d e = ap (λ us. (read_from base us).store) e ∙ document_store base d

stop_answer : (base : Option (List ℕ)) (n : ℕ) (ts : List Token) (rest : Stream) (code : Code) (at : ℕ) → Taken (first base) ts → Stops base n ts rest code at → judge n (read_from base ts) rest ≡ Refuse code at
stop_answer base n ts (NoToken place) code at k s = ap₂ (λ x y. Refuse x y) (sym s.0) (sym s.1)
stop_answer base n ts (Overlong place) code at k s = ap₂ (λ x y. Refuse x y) (sym s.0) (sym s.1)
stop_answer base n ts (Given kind text cut from to s) code at k f =
    ap (λ o. by_code o from (judge n (after_token (read_from base ts) (token_by kind text cut from)) s)) (faulty base ts (token_by kind text cut from) code k f.1) ∙ ap (λ y. Refuse code y) (sym f.0)
stop_answer base n ts (Ends place) code at k (inl (g, p, none)) = elim (cases_Bool (is_statement (read_from base ts).state)) [
  | inl h ↦ let x = is_document ts (read_from base ts) (runs base ts k) h in absurd (none x.0 x.1)
  | inr h ↦ ap (λ b. cond b (unless (read_from base ts).store.limit (Read (records_of (read_from base ts).store))) (Refuse G3 n)) h ∙ ap₂ (λ x y. Refuse x y) (sym g) (sym p)
]
stop_answer base n ts (Ends place) code at k (inr (d, e, l)) =
    ap (λ b. cond b (unless (read_from base ts).store.limit (Read (records_of (read_from base ts).store))) (Refuse G3 n)) (ends_document base ts d k e)
    ∙ ap (λ o. unless o (Read (records_of (read_from base ts).store))) (ap (λ x. x.limit) (said_limit base ts d e) ∙ limit_stands base d code at l)

by_tokens : (base : Option (List ℕ)) (bytes : List ℕ) (s : Stream) → tokens bytes ≡ Tokens s → answer base bytes ≡ judge (length bytes) (first base) s
by_tokens base bytes s e = ap (λ a. by_ahead a (judge (length bytes) (first base))) e

pub refusal_answer : (base : Option (List ℕ)) (bytes : List ℕ) (code : Code) (at : ℕ) → Refusal base bytes code at → answer base bytes ≡ Refuse code at
refusal_answer base bytes code at (inl (u, e)) = ap (λ a. by_ahead a (judge (length bytes) (first base))) e ∙ ap (λ x. Refuse x at) (sym u)
refusal_answer base bytes code at (inr (s, ts, rest, e, cut, fine, stops)) =
    let k : Taken (first base) ts = fine_taken base ts [] tt fine in
    by_tokens base bytes s e ∙ judge_cut s ts rest (length bytes) (first base) cut k ∙ stop_answer base (length bytes) ts rest code at k stops

stops_to : (base : Option (List ℕ)) (n : ℕ) (ts : List Token) (rest : Stream) (code : Code) (at : ℕ) → Taken (first base) ts → old.Fault base n ts rest code at → Stops base n ts rest code at
stops_to base n ts (NoToken place) code at k f = f
stops_to base n ts (Overlong place) code at k f = f
stops_to base n ts (Given kind text cut from to s) code at k f = (f.0, fault_to base ts (token_by kind text cut from) code k f.1)
stops_to base n ts (Ends place) code at k (inl f) = inl f
stops_to base n ts (Ends place) code at k (inr (d, e, l)) = inr (d, e, limit_told base d code at l)

pub answer_refusal : (base : Option (List ℕ)) (bytes : List ℕ) (code : Code) (at : ℕ) → answer base bytes ≡ Refuse code at → Refusal base bytes code at
answer_refusal base bytes code at e = by (tokens bytes) refl e
  where
    by : (a : Ahead) → tokens bytes ≡ a → by_ahead a (judge (length bytes) (first base)) ≡ Refuse code at → Refusal base bytes code at
    by (NotUtf8 place) h f = let c : code ≡ U1 = cc f in let p : place ≡ at = cc f in inl (c, h ∙ ap (λ x. NotUtf8 x) p)
    by (Tokens s) h f =
        let p = judge_path s (length bytes) (first base) in
        let stop = subst (Stop (length bytes) (read_from base p.0) p.1) f p.4 in
        inr (s, p.0, p.1, h, p.2, taken_fine base p.0 p.3, stops_to base (length bytes) p.0 p.1 code at p.3 (fault base (length bytes) p.0 p.1 code at (runs base p.0 p.3) stop))

pub answer_says : (base : Option (List ℕ)) (bytes : List ℕ) (r : Records) → answer base bytes ≡ Read r → Says base bytes r
answer_says base bytes r e = let i = is_read base bytes r e in let small = small_told base i.document i.limit in (i.document, i.spelled, taken_fine base (document i.document) i.taken, small.0, i.is ∙ small.1)

pub says_answer : (base : Option (List ℕ)) (bytes : List ℕ) (r : Records) → Says base bytes r → answer base bytes ≡ Read r
says_answer base bytes r (d, (s, end, e, cut), fine, small, is) =
    let limit = small_stands base d small in
    let ts : List Token = document d in
    let k : Taken (first base) ts = fine_taken base ts [] tt fine in
    by_tokens base bytes s e ∙ judge_cut s ts (Ends end) (length bytes) (first base) cut k
    ∙ ap (λ b. cond b (unless (read_from base ts).store.limit (Read (records_of (read_from base ts).store))) (Refuse G3 (length bytes))) (ends_document base ts d k refl)
    ∙ ap (λ x. unless x.limit (Read (records_of x))) (document_store base d)
    ∙ ap (λ o. unless o (Read (records_of (said base d)))) limit
    ∙ ap (λ x. Read x) ((small_told base d limit).1 ∙ sym is)

pub refused_exactly : (base : Option (List ℕ)) (bytes : List ℕ) (code : Code) (at : ℕ) → (answer base bytes ≡ Refuse code at) ↔ Refusal base bytes code at
refused_exactly base bytes code at = (answer_refusal base bytes code at, refusal_answer base bytes code at)

pub read_exactly : (base : Option (List ℕ)) (bytes : List ℕ) (r : Records) → (answer base bytes ≡ Read r) ↔ Says base bytes r
read_exactly base bytes r = (answer_says base bytes r, says_answer base bytes r)
