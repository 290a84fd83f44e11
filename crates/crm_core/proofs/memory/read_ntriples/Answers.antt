use Rattle.ntriples_reader.specs.Feeding as ntriples
use Rattle.crm_core.proofs.Reading.{fed_whole, read_as, refused_as}
use Rattle.crm_core.proofs.memory.read_ntriples.Goals as goal

pub returns-clause-ok : goal.returns-clause-ok
returns-clause-ok c = read_as _ _ c.finish.result (fed_whole _ _ ntriples.answer c.args.bytes.now c.in-Ok-feed.ensures.answer c.in-Ok.ensures.answer) c.finish.ensures.ok

pub returns-clause-refused : goal.returns-clause-refused
returns-clause-refused c = refused_as _ _ c.finish.result (fed_whole _ _ ntriples.answer c.args.bytes.now c.in-Ok-feed.ensures.answer c.in-Ok.ensures.answer) c.finish.ensures.refused
