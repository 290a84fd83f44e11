use Rattle.std.proofs.Common.{[], sym, refl}
use Rattle.ntriples_reader.specs.Answers.{answer_of}
use Rattle.ntriples_reader.proofs.Judging.{judged_refusal}
use Rattle.ntriples_reader.proofs.lines.LinesReader.judged.Goals as goal

pub returns-then-is_some : goal.returns-then-is_some
returns-then-is_some c = judged_refusal c.settle.new.self (answer_of c.args.self.now []) (c.in_ok-settle.ensures.answer [] (λ e. refl)) (sym c.if-is_some.ensures)
