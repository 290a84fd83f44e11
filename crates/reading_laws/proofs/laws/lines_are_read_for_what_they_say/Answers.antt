use Rattle.reading_laws.proofs.LineRefused.{lines_read_exactly}
use Rattle.reading_laws.proofs.laws.lines_are_read_for_what_they_say.Goals as goal

pub returns : goal.returns
returns c = lines_read_exactly
