use Rattle.reading_laws.proofs.Refused.{read_exactly}
use Rattle.reading_laws.proofs.laws.texts_are_read_for_what_they_say.Goals as goal

pub returns : goal.returns
returns c = read_exactly
