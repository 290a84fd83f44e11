use Rattle.std.proofs.Common.{ℕ, List, ◌++◌, take, ap, sym, ◌∙◌, ◌≡◌}
use Rattle.std.specs.Prelude.{Some, None}
use Rattle.ntriples_tokens.specs.Scanning.{items_of, behind}
use Rattle.ntriples_reader.specs.Lines.{code_at, line_after}
use Rattle.ntriples_reader.specs.Answers.{answer_of, judge, held_behind, token_items}
use Rattle.rdf_reading.specs.Answers.{unless, by_code}
use Rattle.rdf_reading.specs.Answers.Answer.{Refuse}
use Rattle.ntriples_reader.proofs.Judging.{token_judged, on_ok_map}
use Rattle.ntriples_reader.proofs.lines.LinesReader.token.Goals as goal

pub returns-in-Some-clause-answer : goal.returns-in-Some-clause-answer
returns-in-Some-clause-answer c = λ more.
    let l = c.args.self.now.line in
    let h = c.args.self.now.held in
    let k = c.args.kind in
    let n = c.args.n in
    let chars = c.args.self.now.cutter.chars in
    let at = c.args.self.now.cutter.at in
    let code : code_at l k (take n chars) ≡ Some c.in-Some.code = ap (code_at l k) (sym c.chars.ensures) ∙ sym c.in_ok-taken.ensures.code ∙ c.in-Some.is in
    ap (Refuse c.in-Some.code) c.at-at.ensures
    ∙ ap (λ o. by_code o at (judge (line_after l k (take n chars) at) (held_behind k (line_after l k (take n chars) at) h) (behind n (chars ++ more) at))) (sym code)
    ∙ token_judged l h k n chars more at c.requires.some c.requires.within

pub returns-clause-answer : goal.returns-clause-answer
returns-clause-answer c =
    let l = c.args.self.now.line in
    let h = c.args.self.now.held in
    let k = c.args.kind in
    let n = c.args.n in
    let chars = c.args.self.now.cutter.chars in
    let at = c.args.self.now.cutter.at in
    let line = c.take.new.self in
    let code : code_at l k (take n chars) ≡ None = ap (code_at l k) (sym c.chars.ensures) ∙ sym c.in_ok-taken.ensures.code ∙ c.in_default.is in
    let after : line ≡ line_after l k (take n chars) at =
    c.in_ok-taken.ensures.line (sym c.in_ok-taken.ensures.code ∙ c.in_default.is) ∙ ap (λ x. line_after l k x c.at-at.result) c.chars.ensures ∙ ap (line_after l k (take n chars)) c.at-at.ensures in
    on_ok_map c.add_behind.result (c.add_behind.new.self ≡ held_behind k line h)
    ((more : List ℕ) → answer_of (record { alloc = c.args.self.now.alloc; cutter = c.cut.new.self; line = line; held = c.add_behind.new.self; refusal = c.args.self.now.refusal }) more
    ≡ judge l h (token_items k n (chars ++ more) at))
    (λ held more.
    ap (λ r. unless r (judge line c.add_behind.new.self (items_of c.cut.new.self more))) c.requires.none
    ∙ ap (λ x. judge line x (items_of c.cut.new.self more)) held
    ∙ ap (judge line (held_behind k line h)) (c.cut.ensures.items more)
    ∙ ap (λ x. judge x (held_behind k x h) (behind n (chars ++ more) at)) after
    ∙ ap (λ o. by_code o at (judge (line_after l k (take n chars) at) (held_behind k (line_after l k (take n chars) at) h) (behind n (chars ++ more) at))) (sym code)
    ∙ token_judged l h k n chars more at c.requires.some c.requires.within)
    c.add_behind.ensures
