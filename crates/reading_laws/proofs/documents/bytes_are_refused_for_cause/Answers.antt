use Rattle.reading_laws.proofs.Paths.{refused}
use Rattle.reading_laws.proofs.documents.bytes_are_refused_for_cause.Goals as goal

pub returns : goal.returns
returns c = refused
