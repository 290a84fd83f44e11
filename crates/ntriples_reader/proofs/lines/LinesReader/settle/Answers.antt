use Rattle.std.proofs.Common.{◌++◌, ap, sym, ◌∙◌}
use Rattle.ntriples_tokens.specs.Scanning.{items_of, front_items}
use Rattle.ntriples_reader.specs.Answers.{answer_of, judge}
use Rattle.rdf_reading.specs.Answers.{unless}
use Rattle.ntriples_reader.proofs.Judging.{none_judged, long_judged, none_is}
use Rattle.ntriples_reader.proofs.lines.LinesReader.settle.Goals as goal

pub returns-in-Nothing-clause-answer : goal.returns-in-Nothing-clause-answer
returns-in-Nothing-clause-answer c = λ more whole.
    let l = c.tokens.self.line in
    let h = c.tokens.self.held in
    ap (λ r. answer_of r more) c.refuse.ensures
    ∙ none_judged l h c.front.new.self.chars more c.front.new.self.at c.in-Some.ensures.some
    ∙ ap (λ f. judge l h (front_items f (c.front.new.self.chars ++ more) c.front.new.self.at)) (sym c.in-Nothing.is)
    ∙ ap (judge l h) (sym (c.in-Some.ensures.front more whole) ∙ c.in-Some.ensures.items more)
    ∙ ap (λ r. unless r (judge l h (items_of c.tokens.self.cutter more))) (sym (none_is c.tokens.self.refusal c.tokens-test.ensures))
    ∙ c.tokens.invariant.1 more whole

pub returns-in-Long-clause-answer : goal.returns-in-Long-clause-answer
returns-in-Long-clause-answer c = λ more whole.
    let l = c.tokens.self.line in
    let h = c.tokens.self.held in
    ap (λ r. answer_of r more) c.refuse-in-Long.ensures
    ∙ long_judged l h c.front.new.self.chars more c.front.new.self.at c.in-Some.ensures.some
    ∙ ap (λ f. judge l h (front_items f (c.front.new.self.chars ++ more) c.front.new.self.at)) (sym c.in-Long.is)
    ∙ ap (judge l h) (sym (c.in-Some.ensures.front more whole) ∙ c.in-Some.ensures.items more)
    ∙ ap (λ r. unless r (judge l h (items_of c.tokens.self.cutter more))) (sym (none_is c.tokens.self.refusal c.tokens-test.ensures))
    ∙ c.tokens.invariant.1 more whole

pub returns-in_default-clause-answer : goal.returns-in_default-clause-answer
returns-in_default-clause-answer c = λ more whole.
    let l = c.tokens.self.line in
    let h = c.tokens.self.held in
    ap (λ k. unless c.tokens.self.refusal (judge l h (items_of k more))) c.compact.ensures
    ∙ ap (λ i. unless c.tokens.self.refusal (judge l h i)) (c.in_default.ensures.items more)
    ∙ c.tokens.invariant.1 more whole
