use Rattle.reading_laws.proofs.Paths.{read, one_document}
use Rattle.reading_laws.proofs.documents.bytes_that_are_read_are_a_document.Goals as goal

pub returns : goal.returns
returns c = record { some = read; one = one_document }
