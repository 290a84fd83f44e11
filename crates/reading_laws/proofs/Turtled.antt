-- What is read of Turtle.
use Rattle.std.proofs.Common.{ℕ, List, [], ◌≡◌, Bool, true, false, cond, length, is_some, refl, ap, sym, ◌∙◌, subst, inl, inr, true≢false}
use Rattle.std.specs.Prelude.{Option, None, Some}
use Rattle.rdf_terms.specs.declared.terms.Code.TheVariants.{G3}
use Rattle.rdf_terms.specs.declared.terms.Refusal.{Refusal}
use Rattle.rdf_terms.specs.declared.triples.Records.{Records}
use Rattle.rdf_reading.specs.Answers.{unless}
use Rattle.rdf_reading.specs.Answers.Answer.{Refuse, Read}
use Rattle.turtle_grammar.specs.Tokens.{Token}
use Rattle.turtle_grammar.specs.Grammar.{Document, document}
use Rattle.turtle_grammar.specs.Runs.{run, start}
use Rattle.turtle_lexer.specs.Streams.{Stream, Ahead, tokens}
use Rattle.turtle_lexer.specs.Streams.Stream.{Ends, NoToken, Overlong, Given}
use Rattle.turtle_lexer.specs.Streams.Ahead.{NotUtf8, Tokens}
use Rattle.turtle_documents.specs.Documents.{beginning, is_statement}
use Rattle.turtle_reader.specs.Answers.{judge, by_ahead, records_of, environment, answer}
use Rattle.reading_laws.specs.Meaning.{document_says, no_graph}
use Rattle.reading_laws.specs.Spelling.{IsCut, IsDocument}
use Rattle.reading_laws.specs.Refusals.{read_from}
use Rattle.reading_laws.proofs.Steps.{config}
use Rattle.reading_laws.proofs.Documented.{document_store}
use Rattle.reading_laws.proofs.Paths.{Taken, Stop, judge_path, taken_run, is_document}
use Rattle.reading_laws.specs.Numbering.{AreOrderly}
use Rattle.reading_laws.proofs.Graphs.{Post}
use Rattle.reading_laws.proofs.Ordered.{document_orderly}
use Rattle.reading_laws.proofs.Fitted.{are_orderly}

-- the document, whose tokens were taken, and no triple passed a limit
pub record IsRead (base : Option (List ℕ)) (bytes : List ℕ) (r : Records) : Type 0 where
  pub document : Document
  pub spelled : IsDocument bytes document
  pub taken : Taken (beginning (environment base)) (Rattle.turtle_grammar.specs.Grammar.document document)
  pub limit : (document_says document (environment base) no_graph).store.limit ≡ None
  pub is : r ≡ records_of (document_says document (environment base) no_graph).store

read_end : (b : Bool) (o : Option Refusal) (r q : Records) (n : ℕ) → cond b (unless o (Read r)) (Refuse G3 n) ≡ Read q → (b ≡ true) × (o ≡ None) × (r ≡ q)
read_end true None r q n e = (refl, refl, cc e)
read_end true (Some x) r q n e = absurd (cc e)
read_end false o r q n e = absurd (cc e)

by_stop : (base : Option (List ℕ)) (bytes : List ℕ) (s : Stream) (r : Records) (ts : List Token) (rest : Stream) → tokens bytes ≡ Tokens s → IsCut s ts rest → Taken (beginning (environment base)) ts
    → run start ts ≡ config (read_from base ts) → Stop (length bytes) (read_from base ts) rest (Read r) → IsRead base bytes r
by_stop base bytes s r ts (Ends place) h cut taken e stop =
    let end = read_end (is_statement (read_from base ts).state) (read_from base ts).store.limit (records_of (read_from base ts).store) r (length bytes) (sym stop) in
    let x = is_document ts (read_from base ts) e end.0 in
    record {
      document = x.0;
      spelled = (s, place, h, subst (λ us. IsCut s us (Ends place)) x.1 cut);
      taken = subst (Taken (beginning (environment base))) x.1 taken;
      limit = ap (λ z. z.limit) (sym (document_store base x.0)) ∙ ap (λ us. (read_from base us).store.limit) (sym x.1) ∙ end.1;
      is = sym end.2 ∙ ap (λ us. records_of (read_from base us).store) x.1 ∙ ap records_of (document_store base x.0);
    }
by_stop base bytes s r ts (NoToken place) h cut taken e stop = absurd (cc stop)
by_stop base bytes s r ts (Overlong place) h cut taken e stop = absurd (cc stop)
by_stop base bytes s r ts (Given kind text c from to more) h cut taken e stop = absurd (cc (stop.2))

by_tokens : (base : Option (List ℕ)) (bytes : List ℕ) (r : Records) (a : Ahead) → tokens bytes ≡ a → by_ahead a (judge (length bytes) (beginning (environment base))) ≡ Read r → IsRead base bytes r
by_tokens base bytes r (NotUtf8 place) h e = absurd (cc e)
by_tokens base bytes r (Tokens s) h e =
    let p = judge_path s (length bytes) (beginning (environment base)) in
    by_stop base bytes s r p.0 p.1 h p.2 p.3 (taken_run p.0 (beginning (environment base)) p.3) (subst (Stop (length bytes) (read_from base p.0) p.1) e p.4)

pub is_read : (base : Option (List ℕ)) (bytes : List ℕ) (r : Records) → answer base bytes ≡ Read r → IsRead base bytes r
is_read base bytes r e = by_tokens base bytes r (tokens bytes) refl e

pub turtle_orderly : (base : Option (List ℕ)) (bytes : List ℕ) (r : Records) → answer base bytes ≡ Read r → AreOrderly r
turtle_orderly base bytes r e =
    let i = is_read base bytes r e in
    let g = document_says i.document (environment base) no_graph in
    subst AreOrderly (sym i.is) (by i.document i.limit (document_orderly i.document (environment base)))
  where
    by : (d : Document) (l : (document_says d (environment base) no_graph).store.limit ≡ None) → Post (document_says d (environment base) no_graph) [] → AreOrderly (records_of (document_says d (environment base) no_graph).store)
    by d l (inl h) = absurd (true≢false (sym h ∙ ap is_some l))
    by d l (inr o) = are_orderly (document_says d (environment base) no_graph) o
