use Rattle.reading_laws.proofs.Documented.{document_store}
use Rattle.reading_laws.proofs.documents.documents_mean_what_is_read.Goals as goal

pub returns : goal.returns
returns c = document_store
