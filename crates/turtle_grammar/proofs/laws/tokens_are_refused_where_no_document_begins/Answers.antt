use Rattle.turtle_grammar.proofs.Whole.{viable_to, refused_from}
use Rattle.turtle_grammar.proofs.laws.tokens_are_refused_where_no_document_begins.Goals as goal

pub returns : goal.returns
returns c = λ ts. (λ h v. viable_to ts h v, λ n. refused_from ts n)
