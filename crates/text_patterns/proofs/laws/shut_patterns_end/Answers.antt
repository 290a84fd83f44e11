use Rattle.text_patterns.proofs.Derivatives.{shut_ends}
use Rattle.text_patterns.proofs.laws.shut_patterns_end.Goals as goal

pub returns : goal.returns
returns c = shut_ends
