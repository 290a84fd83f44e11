use Rattle.std.proofs.Common.{◌++◌, take, ap, sym, ◌∙◌}
use Rattle.ntriples_reader.specs.Feeding.{promised}
use Rattle.ntriples_reader.specs.Answers.{answer_of}
use Rattle.ntriples_reader.proofs.Running.{run_promised}
use Rattle.ntriples_reader.proofs.reader.NtReader.take_run.Goals as goal

pub returns-then-count-gt0-clause-answer : goal.returns-then-count-gt0-clause-answer
returns-then-count-gt0-clause-answer c = λ more. let run = take c.in-Ok.count c.args.bytes.now in
    run_promised run more c.self.inside.steps c.pass.new.self (answer_of c.self.inside.lines) (answer_of c.take_run.new.self)
    (sym c.if-not-is_between.ensures) c.in-Ok.ensures.ascii c.pass.ensures.fed c.in-Ok.ensures.answer
    ∙ ap (λ r. promised r (run ++ more)) c.self.view_is
