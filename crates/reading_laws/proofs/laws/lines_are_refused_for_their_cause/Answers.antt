use Rattle.reading_laws.proofs.LineRefused.{lines_refused_exactly}
use Rattle.reading_laws.proofs.laws.lines_are_refused_for_their_cause.Goals as goal

pub returns : goal.returns
returns c = lines_refused_exactly
