use Rattle.std.specs.Option.{option_map}
use Rattle.turtle_reader.specs.Answers as turtle
use Rattle.crm_core.proofs.Reading.{fed_whole, read_as, refused_as}
use Rattle.crm_core.proofs.memory.read_turtle.Goals as goal

pub returns-clause-ok : goal.returns-clause-ok
returns-clause-ok c =
    read_as _ _ c.finish.result (fed_whole _ _ (turtle.answer (option_map (λ b. b.now) c.args.base)) c.args.bytes.now c.in-Ok-feed.ensures.answer c.in-Ok.ensures.answer) c.finish.ensures.ok

pub returns-clause-refused : goal.returns-clause-refused
returns-clause-refused c =
    refused_as _ _ c.finish.result (fed_whole _ _ (turtle.answer (option_map (λ b. b.now) c.args.base)) c.args.bytes.now c.in-Ok-feed.ensures.answer c.in-Ok.ensures.answer) c.finish.ensures.refused
