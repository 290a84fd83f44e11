-- A text that is read has one tree.
use Rattle.std.proofs.Common.{ℕ, List, [], ◌∷◌, ◌≡◌, Bool, true, false, cond, option_map, refl, ap, sym, ◌∙◌}
use Rattle.std.specs.Prelude.{Option, None, Some}
use Rattle.rdf_chars.specs.Steps.{start}
use Rattle.rdf_chars.specs.Decoding.{Decoded, decoded}
use Rattle.rdf_chars.specs.Decoding.Decoded.{Chars, BadAt}
use Rattle.rdf_terms.specs.declared.terms.Code.{Code}
use Rattle.rdf_terms.specs.declared.triples.Records.{Records}
use Rattle.ntriples_tokens.specs.declared.kinds.Kind.{Kind}
use Rattle.token_scanner.specs.declared.place.Place.TheVariants.{Beginning}
use Rattle.ntriples_tokens.specs.Scanning.{Items, items}
use Rattle.token_scanner.specs.Items.Items.{Stop, Bad, TooLong, Item}
use Rattle.ntriples_reader.specs.declared.line.Expect.{Expect}
use Rattle.ntriples_reader.specs.declared.store.Held.{Held}
use Rattle.ntriples_reader.specs.Lines.{LineState, no_line, next, with_token, moved, token_code, code_by, code_at, line_after}
use Rattle.ntriples_reader.specs.Storing.{nothing}
use Rattle.rdf_reading.specs.Answers.{Answer, by_code}
use Rattle.ntriples_reader.specs.Answers.{held_behind, judge, text_answer}
use Rattle.rdf_reading.specs.Answers.Answer.{Refuse, Read}
use Rattle.ntriples_reader.specs.Feeding.{answer, by_decoded}
use Rattle.ntriples_laws.specs.Grammar.{Document, document}
use Rattle.ntriples_laws.specs.Runs.{run, may_end}
use Rattle.ntriples_laws.specs.Texts.{kinds, IsTree}
use Rattle.ntriples_laws.proofs.Trees.{document_unique, whole_is_document}
use Rattle.ntriples_laws.proofs.Stepping.{some_same}

pub refused_not : (c : Code) (at : ℕ) (r : Records) → ◌≡◌ {A = Answer} (Refuse c at) (Read r) → ⊥
refused_not c at r e = cc e

-- the reader took these tokens, and a text may end behind them
pub record Taken (e : Expect) (i : Items) : Type 0 where
  pub tokens : List Kind
  pub are : kinds i ≡ Some tokens
  pub whole : may_end (run (Some e) tokens) ≡ true

-- what is expected behind a token that is not refused
pub expected : (o : Option Expect) (l m : LineState) (c : Option Code) → code_by o c ≡ None → o ≡ Some (moved m o).expect
expected None l m c e = absurd (cc e)
expected (Some x) l m c e = refl

pub between : (b : Bool) (a : Answer) (c : Code) (end : ℕ) (r : Records) → cond b a (Refuse c end) ≡ Read r → b ≡ true
between true a c end r e = refl
between false a c end r e = absurd (refused_not c end r e)

pub judge_takes : (i : Items) (l : LineState) (h : Held) (r : Records) → judge l h i ≡ Read r → Taken l.expect i
judge_takes (Stop end) l h r e = record { tokens = []; are = refl; whole = between _ _ _ end r e }
judge_takes (Bad at) l h r e = absurd (refused_not _ at r e)
judge_takes (TooLong at) l h r e = absurd (refused_not _ at r e)
judge_takes (Item k chars at rest) l h r e = by (code_at l k chars) refl (λ d. judge_takes rest (line_after l k chars at) (held_behind k (line_after l k chars at) h) r d)
  where
    by : (o : Option Code) → code_at l k chars ≡ o → (judge (line_after l k chars at) (held_behind k (line_after l k chars at) h) rest ≡ Read r → Taken (line_after l k chars at).expect rest)
        → Taken l.expect (Item k chars at rest)
    by (Some c) f go = absurd (refused_not c at r (ap (λ o. by_code o at (judge (line_after l k chars at) (held_behind k (line_after l k chars at) h) rest)) (sym f) ∙ e))
    by None f go =
        let t = go (ap (λ o. by_code o at (judge (line_after l k chars at) (held_behind k (line_after l k chars at) h) rest)) (sym f) ∙ e) in
        record {
          tokens = k ∷ t.tokens;
          are = ap (option_map (λ ks. k ∷ ks)) t.are;
          whole = ap (λ o. may_end (run o t.tokens)) (expected (next l.expect k) l (with_token k l chars at) (token_code k chars) f) ∙ t.whole;
        }

pub read_has_tree : (bytes : List ℕ) (r : Records) → answer bytes ≡ Read r → (d : Document) × IsTree bytes d
read_has_tree bytes r e = by (decoded start bytes) refl e
  where
    by : (x : Decoded) → decoded start bytes ≡ x → by_decoded x text_answer ≡ Read r → (d : Document) × IsTree bytes d
    by (Chars chars) f e =
        let t = judge_takes (items Beginning 0 chars 0) no_line nothing r e in
        let d = whole_is_document t.tokens t.whole in
        (d.0, (chars, f, t.are ∙ ap Some d.1))
    by (BadAt place) f e = absurd (refused_not _ place r e)

pub chars_same : (a b : List ℕ) → Chars a ≡ Chars b → a ≡ b
chars_same a b e = cc

pub one_tree : (bytes : List ℕ) (d e : Document) → IsTree bytes d → IsTree bytes e → d ≡ e
one_tree bytes d e (chars, f, g) (others, h, k) =
    document_unique d e (some_same (document d) (document e) (sym g ∙ ap (λ x. kinds (items Beginning 0 x 0)) (chars_same chars others (sym f ∙ h)) ∙ k))
