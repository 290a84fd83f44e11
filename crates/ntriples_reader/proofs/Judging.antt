-- What is said of a text at whose front a token stands, or none.
use Rattle.std.proofs.Common.{ℕ, List, [], ◌∷◌, ◌++◌, ◌≡◌, ◌<◌, ◌≤◌, length, take, refl, ap, sym, ◌∙◌, arith}
use Rattle.std.proofs.lemmas.List.{take-append-le}
use Rattle.std.specs.Prelude.{Option, None, Some, is_some, true, false, cond, Result, Ok, Err, OnOk}
use Rattle.std.proofs.lemmas.Bool.{true≢false, false≢true}
use Rattle.rdf_terms.specs.declared.terms.Code.TheVariants.{G1, G3, L2}
use Rattle.rdf_terms.specs.declared.terms.Refusal.{Refusal}
use Rattle.ntriples_tokens.specs.declared.kinds.Kind.{Kind}
use Rattle.token_scanner.specs.declared.front.Front.TheVariants.{Nothing, Long}
use Rattle.token_scanner.specs.Items.{Kept}
use Rattle.ntriples_tokens.specs.Scanning.{items, items_of, behind, front_items}
use Rattle.ntriples_reader.specs.declared.store.Held.{Held}
use Rattle.ntriples_reader.specs.declared.store.Store.{Store}
use Rattle.ntriples_reader.specs.declared.lines.LinesReader.{LinesReader}
use Rattle.ntriples_reader.specs.Lines.{LineState, code_at, line_after, is_between}
use Rattle.rdf_reading.specs.Answers.{Answer, by_code, unless}
use Rattle.ntriples_reader.specs.Answers.{judge, held_behind, token_items, records_of, answer_of, Judges}
use Rattle.rdf_reading.specs.Answers.Answer.{Refuse, Read}

pub token_judged : (l : LineState) (h : Held) (k : Kind) (n : ℕ) (chars more : List ℕ) (at : ℕ) → 0 < n → n ≤ length chars
    → by_code (code_at l k (take n chars)) at (judge (line_after l k (take n chars) at) (held_behind k (line_after l k (take n chars) at) h) (behind n (chars ++ more) at))
    ≡ judge l h (token_items k n (chars ++ more) at)
token_judged l h k n [] more at some within = absurd (omega arith)
token_judged l h k n (c ∷ chars) more at some within =
    ap (λ x. by_code (code_at l k x) at (judge (line_after l k x at) (held_behind k (line_after l k x at) h) (behind n (c ∷ (chars ++ more)) at)))
    (sym (take-append-le n (c ∷ chars) more within))

pub none_judged : (l : LineState) (h : Held) (chars more : List ℕ) (at : ℕ) → 0 < length chars → Refuse G1 at ≡ judge l h (front_items Nothing (chars ++ more) at)
none_judged l h [] more at some = absurd (omega arith)
none_judged l h (c ∷ chars) more at some = refl

pub long_judged : (l : LineState) (h : Held) (chars more : List ℕ) (at : ℕ) → 0 < length chars → Refuse L2 at ≡ judge l h (front_items Long (chars ++ more) at)
long_judged l h [] more at some = absurd (omega arith)
long_judged l h (c ∷ chars) more at some = refl

pub none_is : {A : Type 0} (o : Option A) → is_some o ≡ false → o ≡ None
none_is None e = refl
none_is (Some x) e = absurd (true≢false e)

pub on_ok_map : {T E : Type 0} (r : Result T E) (X Y : Type 0) → (X → Y) → OnOk r X → OnOk r Y
on_ok_map (Ok v) X Y f x = f x
on_ok_map (Err e) X Y f x = tt

refusal_judges : (o : Option Refusal) (st : Store) (j a : Answer) → unless o j ≡ a → is_some o ≡ true → Judges o st a
refusal_judges None st j a e some = absurd (false≢true some)
refusal_judges (Some r) st j a e some = sym e

limit_judges : (o : Option Refusal) (st : Store) (a : Answer) → unless o (Read (records_of st)) ≡ a → Judges o st a
limit_judges None st a e = sym e
limit_judges (Some r) st a e = sym e

pub judged_refusal : (r : LinesReader) (a : Answer) → answer_of r [] ≡ a → is_some r.refusal ≡ true → Judges r.refusal r.held.store a
judged_refusal r a e some = refusal_judges r.refusal r.held.store (judge r.line r.held (items_of r.cutter [])) a e some

stop_judged : (l : LineState) (h : Held) (k : Kept) → k.chars ≡ [] → judge l h (items_of k []) ≡ cond (is_between l.expect) (unless h.limit (Read (records_of h.store))) (Refuse G3 k.at)
stop_judged l h k e = ap (λ x. judge l h (items k.place 0 (x ++ []) k.at)) e

answer_stop : (r : LinesReader) → is_some r.refusal ≡ false → r.cutter.chars ≡ []
    → answer_of r [] ≡ cond (is_between r.line.expect) (unless r.held.limit (Read (records_of r.held.store))) (Refuse G3 r.cutter.at)
answer_stop r none e = ap (λ o. unless o (judge r.line r.held (items_of r.cutter []))) (none_is r.refusal none) ∙ stop_judged r.line r.held r.cutter e

pub judged_open : (r : LinesReader) (a : Answer) → answer_of r [] ≡ a → is_some r.refusal ≡ false → r.cutter.chars ≡ [] → is_between r.line.expect ≡ false → a ≡ Refuse G3 r.cutter.at
judged_open r a e none empty open_line = sym e ∙ answer_stop r none empty
    ∙ ap (λ b. cond b (unless r.held.limit (Read (records_of r.held.store))) (Refuse G3 r.cutter.at)) open_line

pub judged_limit : (r : LinesReader) (a : Answer) → answer_of r [] ≡ a → is_some r.refusal ≡ false → r.cutter.chars ≡ [] → is_between r.line.expect ≡ true → Judges r.held.limit r.held.store a
judged_limit r a e none empty between = limit_judges r.held.limit r.held.store a
    (sym (answer_stop r none empty ∙ ap (λ b. cond b (unless r.held.limit (Read (records_of r.held.store))) (Refuse G3 r.cutter.at)) between) ∙ e)
