-- What is answered, by the tokens that were taken and what stands behind them.
use Rattle.std.proofs.Common.{ℕ, ◌≤◌, List, [], ◌∷◌, ◌++◌, ◌≡◌, refl, ap, sym, ◌∙◌, inl, inr, subst, length, arith}
use Rattle.std.specs.Prelude.{Bool, true, false, cond, nat_le, Option, None, Some, ◌⊎◌, ⊤}
use Rattle.std.proofs.lemmas.Bool.{true≢false, false≢true}
use Rattle.std.proofs.lemmas.Bool.Decides.{nat_tests}
use Rattle.rdf_terms.specs.declared.terms.Code.{Code}
use Rattle.rdf_terms.specs.declared.terms.Code.TheVariants.{U1, G1, G2, G3, L2, L3}
use Rattle.rdf_terms.specs.declared.terms.Refusal.{Refusal}
use Rattle.rdf_terms.specs.declared.triples.Records.{Records}
use Rattle.rdf_reading.specs.Answers.{Answer, unless, by_code}
use Rattle.rdf_reading.specs.Answers.Answer.{Refuse, Read}
use Rattle.turtle_tokens.specs.declared.kinds.TokenKind.{TokenKind}
use Rattle.turtle_grammar.specs.declared.states.Frame.{Frame}
use Rattle.turtle_grammar.specs.declared.states.State.{State}
use Rattle.turtle_grammar.specs.declared.states.State.TheVariants as state
use Rattle.turtle_grammar.specs.declared.states.Step.{Step}
use Rattle.turtle_grammar.specs.declared.states.Step.TheVariants.{Stay, Push, Pop, Refused}
use Rattle.turtle_grammar.specs.Machine.{next}
use Rattle.turtle_grammar.specs.Tokens.{Token, terminal_of}
use Rattle.turtle_grammar.specs.Tokens.Token.{Name, OpenSquare, OpenRound}
use Rattle.turtle_grammar.specs.Grammar.{Document, document, Viable}
use Rattle.turtle_grammar.specs.Runs.{Config, advance, step, run, start}
use Rattle.turtle_grammar.proofs.Rests.{Statements}
use Rattle.turtle_grammar.proofs.Whole.{Lang, run_to, viable_from, viable_to, document_from, document_to}
use Rattle.turtle_grammar.proofs.Unique.{document_unique}
use Rattle.turtle_lexer.specs.Streams.{Stream, Ahead, tokens}
use Rattle.turtle_lexer.specs.Streams.Stream.{Ends, NoToken, Overlong, Given}
use Rattle.turtle_lexer.specs.Streams.Ahead.{NotUtf8, Tokens}
use Rattle.turtle_documents.specs.declared.document.Open.{Open}
use Rattle.turtle_environments.specs.Words.{token_by}
use Rattle.turtle_documents.specs.Documents.{DocumentState, beginning, is_statement, settled, top_frame, step_code, step_of, stay_code, token_code, after_token, code_from}
use Rattle.turtle_reader.specs.Answers.{judge, by_ahead, records_of, environment, answer}
use Rattle.reading_laws.specs.Meaning.{document_says, no_graph}
use Rattle.reading_laws.specs.Spelling.{IsCut, IsDocument}
use Rattle.reading_laws.specs.Refusals.{read_on, read_from, open_behind, is_opening, IsTokenFault, IsEndFault, AreTaken, Fault, IsRefused}
use Rattle.reading_laws.proofs.Stacks.{frames, settled_stack}
use Rattle.reading_laws.proofs.Steps.{config, tops, settled_step, token_config, code_none}
use Rattle.reading_laws.proofs.Settled.{stay_settled}
use Rattle.reading_laws.proofs.Opens.{run_open, opens, agrees, next_agrees}
use Rattle.reading_laws.proofs.Documented.{document_store}

-- why reading stops behind what was read, and what is then answered
abbrev pub Stop : ℕ → DocumentState → Stream → Answer → Type 0
Stop n d (Ends at) a = a ≡ cond (is_statement d.state) (unless d.store.limit (Read (records_of d.store))) (Refuse G3 n)
Stop n d (NoToken at) a = a ≡ Refuse G1 at
Stop n d (Overlong at) a = a ≡ Refuse L2 at
Stop n d (Given kind text cut from to s) a = (c : Code) × (token_code d (token_by kind text cut from) ≡ Some c) × (a ≡ Refuse c from)

-- none of the tokens was refused
abbrev pub Taken : DocumentState → List Token → Type 0
Taken d [] = ⊤
Taken d (t ∷ ts) = (token_code d t ≡ None) × Taken (after_token d t) ts

abbrev pub Path : Stream → ℕ → DocumentState → Answer → Type 0
Path s n d a = (ts : List Token) × (rest : Stream) × IsCut s ts rest × Taken d ts × Stop n (read_on d ts) rest a

pub path_more : (kind : TokenKind) (text : List ℕ) (cut from to : ℕ) (s : Stream) (n : ℕ) (d : DocumentState)
    → Path s n (after_token d (token_by kind text cut from)) (judge n (after_token d (token_by kind text cut from)) s)
    → (o : Option Code) → token_code d (token_by kind text cut from) ≡ o
    → Path (Given kind text cut from to s) n d (by_code o from (judge n (after_token d (token_by kind text cut from)) s))
path_more kind text cut from to s n d p None h = ((token_by kind text cut from) ∷ p.0, p.1, (refl, p.2), (h, p.3), p.4)
path_more kind text cut from to s n d p (Some c) h = ([], Given kind text cut from to s, refl, tt, (c, h, refl))

pub judge_path : (s : Stream) (n : ℕ) (d : DocumentState) → Path s n d (judge n d s)
judge_path (Ends at) n d = ([], Ends at, refl, tt, refl)
judge_path (NoToken at) n d = ([], NoToken at, refl, tt, refl)
judge_path (Overlong at) n d = ([], Overlong at, refl, tt, refl)
judge_path (Given kind text cut from to s) n d = path_more kind text cut from to s n d
    (judge_path s n (after_token d (token_by kind text cut from))) (token_code d (token_by kind text cut from)) refl

-- the machine goes with them
pub taken_run : (ts : List Token) (d : DocumentState) → Taken d ts → run (config d) ts ≡ config (read_on d ts)
taken_run [] d h = refl
taken_run (t ∷ ts) d h = ap (λ c. run c ts) (token_config d t h.0) ∙ taken_run ts (after_token d t) h.1

pub taken_front : (us vs : List Token) (d : DocumentState) → Taken d (us ++ vs) → Taken d us
taken_front [] vs d h = tt
taken_front (t ∷ us) vs d h = (h.0, taken_front us vs (after_token d t) h.1)

pub taken_at : (us vs : List Token) (t : Token) (d : DocumentState) → Taken d (us ++ t ∷ vs) → token_code (read_on d us) t ≡ None
taken_at [] vs t d h = h.0
taken_at (u ∷ us) vs t d h = taken_at us vs t (after_token d u) h.1

-- a state that the machine is in begins a document
pub none_some : (c : Config) (x : State × List Frame) → c ≡ Some x → c ≡ None → ⊥
none_some c x e h = cc

pub viable : (ts : List Token) (x : State × List Frame) → run start ts ≡ Some x → Viable ts
viable ts x e = viable_from ts (none_some (run start ts) x e)

pub run_append : (ts us : List Token) (c : Config) → run c (ts ++ us) ≡ run (run c ts) us
run_append [] us c = refl
run_append (t ∷ ts) us c = run_append ts us (step c t)

pub nothing_open : (st : List Frame) (more : List Token) → Statements st more → st ≡ []
nothing_open [] more s = refl
nothing_open (f ∷ st) more s = absurd s

pub statement_document : (ts : List Token) (st : List Frame) → run start ts ≡ Some (state.Statement, st) → (d : Document) × (ts ≡ document d)
statement_document ts st e =
    let v = viable ts (state.Statement, st) e in
    let left = subst (λ c. Lang c v.0) e (run_to start ts v.0 (v.1, v.2)) in
    document_from ts (e ∙ ap (λ x. Some (state.Statement, x)) (nothing_open st v.0 left))

pub statement_is : (q : State) → is_statement q ≡ true → q ≡ state.Statement
statement_is state.Statement h = refl
statement_is q h = absurd (false≢true h)

pub is_document : (ts : List Token) (d : DocumentState) → run start ts ≡ config d → is_statement d.state ≡ true → (x : Document) × (ts ≡ document x)
is_document ts d e h = statement_document ts (frames d.stack) (e ∙ ap (λ q. Some (q, frames d.stack)) (statement_is d.state h))

pub some_is : (a b : State × List Frame) → Some a ≡ Some b → a ≡ b
some_is a b e = cc

pub start_is : (d : DocumentState) → start ≡ config d → is_statement d.state ≡ true
start_is d e = ap (λ x. is_statement x.0) (some_is (d.state, frames d.stack) (state.Statement, []) (sym e))

pub no_document : (ts : List Token) (d : DocumentState) → run start ts ≡ config d → is_statement d.state ≡ false → (x : Document) → ts ≡ document x → ⊥
no_document ts d e h x w = true≢false (sym (start_is d (sym (document_to ts x w) ∙ e)) ∙ h)

-- the end of the tokens
pub read_end : (b : Bool) (o : Option Refusal) (r q : Records) (n : ℕ) → cond b (unless o (Read r)) (Refuse G3 n) ≡ Read q → (b ≡ true) × (r ≡ q)
read_end true None r q n e = (refl, cc)
read_end true (Some x) r q n e = absurd (cc e)
read_end false o r q n e = absurd (cc e)

pub refused_end : (b : Bool) (o : Option Refusal) (r : Records) (n : ℕ) (code : Code) (at : ℕ) → Refuse code at ≡ cond b (unless o (Read r)) (Refuse G3 n)
    → ((b ≡ false) × (code ≡ G3) × (at ≡ n)) ⊎ ((b ≡ true) × (o ≡ Some (record { code = code; at = at })))
refused_end true None r n code at e = absurd (cc e)
refused_end true (Some x) r n code at e =
    let c : x.code ≡ code = cc in
    let p : x.at ≡ at = cc in
    inr (refl, ap (λ y. Some (record { code = y; at = x.at })) c ∙ ap (λ y. Some (record { code = code; at = y })) p)
refused_end false o r n code at e = inl (refl, cc, cc)

pub end_fault : (base : Option (List ℕ)) (n : ℕ) (ts : List Token) (code : Code) (at : ℕ) → run start ts ≡ config (read_from base ts)
    → Stop n (read_from base ts) (Ends at) (Refuse code at) → IsEndFault base n ts code at
end_fault base n ts code at e stop = elim (refused_end (is_statement (read_from base ts).state) (read_from base ts).store.limit (records_of (read_from base ts).store) n code at stop) [
  | inl a ↦ inl (a.1, a.2, no_document ts (read_from base ts) e a.0)
  | inr a ↦ let x = is_document ts (read_from base ts) e a.0 in
      inr (x.0, x.1, ap (λ z. z.limit) (sym (document_store base x.0)) ∙ ap (λ us. (read_from base us).store.limit) (sym x.1) ∙ a.1)
]

-- a token that is refused
pub behind : (ts : List Token) (d : DocumentState) (t : Token) → run start ts ≡ config d
    → run start (ts ++ t ∷ []) ≡ advance (next d.state (top_frame d.stack) (terminal_of t)) (frames d.stack)
behind ts d t e = run_append ts (t ∷ []) start ∙ ap (λ c. step c t) e ∙ ap (λ o. advance (next d.state o (terminal_of t)) (frames d.stack)) (tops d.stack)

pub settled_length : (d : DocumentState) (t : Token) → length (settled d (terminal_of t)).stack ≡ length (frames d.stack)
settled_length d t = ap length (settled_stack d (terminal_of t)) ∙ sym (frames_length d.stack)
  where
    frames_length : (st : List Open) → length (frames st) ≡ length st
    frames_length [] = refl
    frames_length (o ∷ st) = omega (arith, frames_length st)

pub limit_code : (b : Bool) (code : Code) → cond b (Some L3) None ≡ Some code → (b ≡ true) × (code ≡ L3)
limit_code true code e = (refl, cc)
limit_code false code e = absurd (cc e)

pub opened_count : (ts : List Token) (d : DocumentState) (t : Token) → run start ts ≡ config d → nat_le 128 (length (settled d (terminal_of t)).stack) ≡ true → 128 ≤ open_behind 0 ts
opened_count ts d t e h =
    let a = settled_length d t in
    let b = run_open ts state.Statement [] (d.state, frames d.stack) e in
    grind (arith, nat_tests)

pub few_open : (ts : List Token) (d : DocumentState) (t : Token) → run start ts ≡ config d → nat_le 128 (length (settled d (terminal_of t)).stack) ≡ false → 128 ≤ open_behind 0 ts → ⊥
few_open ts d t e h f =
    let a = settled_length d t in
    let b = run_open ts state.Statement [] (d.state, frames d.stack) e in
    grind (arith, nat_tests)

pub under : (b : Bool) → cond b (Some L3) None ≡ None → b ≡ false
under true e = absurd (code_none L3 e)
under false e = refl

pub stay_not : (q : State) (t : Token) → agrees (Stay q) (terminal_of t) ≡ true → is_opening t ≡ true → ⊥
stay_not q (OpenSquare at) h o = false≢true h
stay_not q (OpenRound at) h o = false≢true h
stay_not q _ h o = false≢true o

pub pop_not : (q : State) (t : Token) → agrees (Pop q) (terminal_of t) ≡ true → is_opening t ≡ true → ⊥
pop_not q (OpenSquare at) h o = false≢true h
pop_not q (OpenRound at) h o = false≢true h
pop_not q _ h o = false≢true o

pub push_name : (f : Frame) (q : State) (d : DocumentState) (t : Token) (code : Code) → agrees (Push f q) (terminal_of t) ≡ true → stay_code d t ≡ Some code → ⊥
unfolding stay_code
push_name f q d (Name g v) code h e = false≢true h
push_name f q d _ code h e = code_none code (sym e)

pub pop_name : (q : State) (d : DocumentState) (t : Token) (code : Code) → agrees (Pop q) (terminal_of t) ≡ true → stay_code d t ≡ Some code → ⊥
unfolding stay_code
pop_name q d (Name g v) code h e = false≢true h
pop_name q d _ code h e = code_none code (sym e)

pub token_fault_by : (s : Step) (base : Option (List ℕ)) (ts : List Token) (t : Token) (code : Code) → run start ts ≡ config (read_from base ts)
    → s ≡ next (read_from base ts).state (top_frame (read_from base ts).stack) (terminal_of t)
    → step_code s (settled (read_from base ts) (terminal_of t)) t ≡ Some code → IsTokenFault base ts t code
token_fault_by Refused base ts t code e n h =
    inl (cc, viable_to (ts ++ t ∷ []) (behind ts (read_from base ts) t e ∙ ap (λ s. advance s (frames (read_from base ts).stack)) (sym n)))
token_fault_by (Push f q) base ts t code e n h =
    let d = read_from base ts in
    let l = limit_code (nat_le 128 (length (settled d (terminal_of t)).stack)) code h in
    inr (inl (
      viable (ts ++ t ∷ []) (q, f ∷ frames d.stack) (behind ts d t e ∙ ap (λ s. advance s (frames d.stack)) (sym n)),
      l.1,
      opens d.state (top_frame d.stack) t f q (sym n),
      opened_count ts d t e l.0,
    ))
token_fault_by (Pop q) base ts t code e n h = absurd (cc h)
token_fault_by (Stay q) base ts t code e n h =
    let d = read_from base ts in
    inr (inr (viable (ts ++ t ∷ []) (q, frames d.stack) (behind ts d t e ∙ ap (λ s. advance s (frames d.stack)) (sym n)), sym (stay_settled d t) ∙ h))

pub token_fault : (base : Option (List ℕ)) (ts : List Token) (t : Token) (code : Code) → run start ts ≡ config (read_from base ts) → token_code (read_from base ts) t ≡ Some code → IsTokenFault base ts t code
unfolding code_from
token_fault base ts t code e h =
    let d = read_from base ts in
    let s = step_of (settled d (terminal_of t)).state (settled d (terminal_of t)) t in
    token_fault_by s base ts t code e (sym (settled_step d (terminal_of t))) h

pub fault : (base : Option (List ℕ)) (n : ℕ) (ts : List Token) (rest : Stream) (code : Code) (at : ℕ) → run start ts ≡ config (read_from base ts)
    → Stop n (read_from base ts) rest (Refuse code at) → Fault base n ts rest code at
fault base n ts (Ends place) code at e stop = end_fault base n ts code at e stop
fault base n ts (NoToken place) code at e stop = (cc stop, cc stop)
fault base n ts (Overlong place) code at e stop = (cc stop, cc stop)
fault base n ts (Given kind text cut from to s) code at e stop =
    let c : stop.0 ≡ code = cc (stop.2) in
    let p : at ≡ from = cc (stop.2) in
    (p, token_fault base ts (token_by kind text cut from) code e (stop.1 ∙ ap (λ x. Some x) c))

pub begins : (base : Option (List ℕ)) → config (beginning (environment base)) ≡ start
begins base = refl

-- a token that was taken has no fault
pub taken_by : (s : Step) (base : Option (List ℕ)) (ts : List Token) (t : Token) (code : Code) → run start ts ≡ config (read_from base ts)
    → s ≡ next (read_from base ts).state (top_frame (read_from base ts).stack) (terminal_of t)
    → step_code s (settled (read_from base ts) (terminal_of t)) t ≡ None → (is_opening t ≡ true) × (128 ≤ open_behind 0 ts) → ⊥
taken_by Refused base ts t code e n h f = code_none G2 h
taken_by (Push r q) base ts t code e n h f =
    let d = read_from base ts in
    few_open ts d t e (under (nat_le 128 (length (settled d (terminal_of t)).stack)) h) f.1
taken_by (Pop q) base ts t code e n h f = pop_not q t (ap (λ s. agrees s (terminal_of t)) n ∙ next_agrees (read_from base ts).state (top_frame (read_from base ts).stack) (terminal_of t)) f.0
taken_by (Stay q) base ts t code e n h f = stay_not q t (ap (λ s. agrees s (terminal_of t)) n ∙ next_agrees (read_from base ts).state (top_frame (read_from base ts).stack) (terminal_of t)) f.0

pub name_taken_by : (s : Step) (base : Option (List ℕ)) (ts : List Token) (t : Token) (code : Code)
    → s ≡ next (read_from base ts).state (top_frame (read_from base ts).stack) (terminal_of t)
    → step_code s (settled (read_from base ts) (terminal_of t)) t ≡ None → stay_code (read_from base ts) t ≡ Some code → ⊥
name_taken_by Refused base ts t code n h f = code_none G2 h
name_taken_by (Push r q) base ts t code n h f = push_name r q (read_from base ts) t code (ap (λ s. agrees s (terminal_of t)) n ∙ next_agrees (read_from base ts).state (top_frame (read_from base ts).stack) (terminal_of t)) f
name_taken_by (Pop q) base ts t code n h f = pop_name q (read_from base ts) t code (ap (λ s. agrees s (terminal_of t)) n ∙ next_agrees (read_from base ts).state (top_frame (read_from base ts).stack) (terminal_of t)) f
name_taken_by (Stay q) base ts t code n h f = code_none code (sym f ∙ sym (stay_settled (read_from base ts) t) ∙ h)

pub no_fault : (base : Option (List ℕ)) (ts : List Token) (t : Token) (code : Code) → run start ts ≡ config (read_from base ts) → token_code (read_from base ts) t ≡ None → IsTokenFault base ts t code → ⊥
unfolding code_from
no_fault base ts t code e h f =
    let d = read_from base ts in
    let s = step_of (settled d (terminal_of t)).state (settled d (terminal_of t)) t in
    elim f [
      | inl a ↦ a.1 (viable (ts ++ t ∷ []) ((after_token d t).state, frames (after_token d t).stack) (run_append ts (t ∷ []) start ∙ ap (λ c. step c t) e ∙ token_config d t h))
      | inr b ↦ elim b [
        | inl a ↦ taken_by s base ts t code e (sym (settled_step d (terminal_of t))) h (a.2, a.3)
        | inr a ↦ name_taken_by s base ts t code (sym (settled_step d (terminal_of t))) h a.1
      ]
    ]

pub are_taken : (base : Option (List ℕ)) (ts : List Token) → Taken (beginning (environment base)) ts → AreTaken base ts
are_taken base ts h us vs t code w f =
    let k = subst (Taken (beginning (environment base))) w h in
    no_fault base us t code (taken_run us (beginning (environment base)) (taken_front us (t ∷ vs) (beginning (environment base)) k)) (taken_at us vs t (beginning (environment base)) k) f

pub path_refused : (base : Option (List ℕ)) (bytes : List ℕ) (s : Stream) (code : Code) (at : ℕ) → tokens bytes ≡ Tokens s
    → Path s (length bytes) (beginning (environment base)) (Refuse code at) → IsRefused base bytes code at
path_refused base bytes s code at h p =
    let e : run start p.0 ≡ config (read_from base p.0) = taken_run p.0 (beginning (environment base)) p.3 in
    inr (s, p.0, p.1, h, p.2, viable p.0 ((read_from base p.0).state, frames (read_from base p.0).stack) e, are_taken base p.0 p.3, fault base (length bytes) p.0 p.1 code at e p.4)

pub refused_by : (base : Option (List ℕ)) (bytes : List ℕ) (code : Code) (at : ℕ) (a : Ahead) → tokens bytes ≡ a
    → by_ahead a (judge (length bytes) (beginning (environment base))) ≡ Refuse code at → IsRefused base bytes code at
refused_by base bytes code at (NotUtf8 place) h e = let c : code ≡ U1 = cc e in let p : place ≡ at = cc e in inl (c, h ∙ ap (λ x. NotUtf8 x) p)
refused_by base bytes code at (Tokens s) h e = path_refused base bytes s code at h
    (subst (Path s (length bytes) (beginning (environment base))) e (judge_path s (length bytes) (beginning (environment base))))

pub refused : (base : Option (List ℕ)) (bytes : List ℕ) (code : Code) (at : ℕ) → answer base bytes ≡ Refuse code at → IsRefused base bytes code at
refused base bytes code at e = refused_by base bytes code at (tokens bytes) refl e

-- names and triples are answered
pub read_stop : (base : Option (List ℕ)) (bytes : List ℕ) (s : Stream) (records : Records) (ts : List Token) (rest : Stream) → tokens bytes ≡ Tokens s → IsCut s ts rest
    → run start ts ≡ config (read_from base ts) → Stop (length bytes) (read_from base ts) rest (Read records) → (d : Document) × IsDocument bytes d × (records ≡ records_of (document_says d (environment base) no_graph).store)
read_stop base bytes s records ts (Ends place) h cut e stop =
    let r = read_end (is_statement (read_from base ts).state) (read_from base ts).store.limit (records_of (read_from base ts).store) records (length bytes) (sym stop) in
    let x = is_document ts (read_from base ts) e r.0 in
    (x.0, (s, place, h, subst (λ us. IsCut s us (Ends place)) x.1 cut), sym r.1 ∙ ap (λ us. records_of (read_from base us).store) x.1 ∙ ap records_of (document_store base x.0))
read_stop base bytes s records ts (NoToken place) h cut e stop = absurd (cc stop)
read_stop base bytes s records ts (Overlong place) h cut e stop = absurd (cc stop)
read_stop base bytes s records ts (Given kind text c from to r) h cut e stop = absurd (cc (stop.2))

pub read_by : (base : Option (List ℕ)) (bytes : List ℕ) (records : Records) (a : Ahead) → tokens bytes ≡ a
    → by_ahead a (judge (length bytes) (beginning (environment base))) ≡ Read records → (d : Document) × IsDocument bytes d × (records ≡ records_of (document_says d (environment base) no_graph).store)
read_by base bytes records (NotUtf8 place) h e = absurd (cc e)
read_by base bytes records (Tokens s) h e =
    let p = judge_path s (length bytes) (beginning (environment base)) in
    read_stop base bytes s records p.0 p.1 h p.2 (taken_run p.0 (beginning (environment base)) p.3) (subst (Stop (length bytes) (read_from base p.0) p.1) e p.4)

pub read : (base : Option (List ℕ)) (bytes : List ℕ) (records : Records) → answer base bytes ≡ Read records → (d : Document) × IsDocument bytes d × (records ≡ records_of (document_says d (environment base) no_graph).store)
read base bytes records e = read_by base bytes records (tokens bytes) refl e

-- bytes are one document at most
pub cut_once : (s : Stream) (ts us : List Token) (a b : ℕ) → IsCut s ts (Ends a) → IsCut s us (Ends b) → ts ≡ us
cut_once (Given kind text cut from to s) [] us a b g h = absurd (cc g)
cut_once (Given kind text cut from to s) (t ∷ ts) [] a b g h = absurd (cc h)
cut_once (Given kind text cut from to s) (t ∷ ts) (u ∷ us) a b g h =
    ap (λ x. x ∷ ts) (g.0 ∙ sym h.0) ∙ ap (λ xs. u ∷ xs) (cut_once s ts us a b g.1 h.1)
cut_once (Ends at) [] [] a b g h = refl
cut_once (Ends at) [] (u ∷ us) a b g h = absurd h
cut_once (Ends at) (t ∷ ts) us a b g h = absurd g
cut_once (NoToken at) [] us a b g h = absurd (cc g)
cut_once (NoToken at) (t ∷ ts) us a b g h = absurd g
cut_once (Overlong at) [] us a b g h = absurd (cc g)
cut_once (Overlong at) (t ∷ ts) us a b g h = absurd g

pub one_document : (bytes : List ℕ) (d e : Document) → IsDocument bytes d → IsDocument bytes e → d ≡ e
one_document bytes d e x y =
    let same : x.0 ≡ y.0 = cc (x.2, y.2) in
    document_unique d e (cut_once y.0 (document d) (document e) x.1 y.1 (subst (λ s. IsCut s (document d) (Ends x.1)) same x.3) y.3)
