use Rattle.turtle_grammar.proofs.Whole.{document_from, document_to}
use Rattle.turtle_grammar.proofs.laws.documents_lead_back_to_the_start.Goals as goal

pub returns : goal.returns
returns c = λ ts. (λ h. document_from ts h, λ d. document_to ts d.0 d.1)
