use Rattle.reading_laws.proofs.Refused.{refused_exactly}
use Rattle.reading_laws.proofs.laws.texts_are_refused_for_their_cause.Goals as goal

pub returns : goal.returns
returns c = refused_exactly
