use Rattle.turtle_grammar.proofs.Unique.{document_unique}
use Rattle.turtle_grammar.proofs.laws.documents_have_one_tree.Goals as goal

pub returns : goal.returns
returns c = λ d e h. document_unique d e h
