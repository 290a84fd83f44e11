use Rattle.std.proofs.Common.{false}
use Rattle.crm_core.proofs.Reading.{told, finished, broken_off, long_out, whole_out, whole_length, no_length}
use Rattle.crm_core.proofs.archive.read_turtle.Goals as goal

pub returns-in-Err-clause-answer : goal.returns-in-Err-clause-answer
returns-in-Err-clause-answer g c = broken_off false _ _ _ _ c.in-Err.ensures.long

pub returns-clause-answer : goal.returns-clause-answer
returns-clause-answer g c =
    rw c.archive_of.ensures.records
    (told false _ _ _ _ _ _ _ c.in-Ok-feed_file.ensures.whole c.in-Ok.ensures.answer (finished _ _ c.finish.ensures.ok c.finish.ensures.refused))

pub returns-in-Err-clause-out : goal.returns-in-Err-clause-out
returns-in-Err-clause-out g c = long_out _ _ _ c.in-Err.ensures.long

pub returns-clause-out : goal.returns-clause-out
returns-clause-out g c = rw c.archive_of.ensures.records (whole_out _ _ c.finish.result c.in-Ok-feed_file.ensures.whole.end)

pub returns-in-Err-clause-length : goal.returns-in-Err-clause-length
returns-in-Err-clause-length g c = no_length _ _

pub returns-clause-length : goal.returns-clause-length
returns-clause-length g c = whole_length _ _ _ _ _ _ c.in-Ok-feed_file.ensures.whole c.archive_of.ensures.length
