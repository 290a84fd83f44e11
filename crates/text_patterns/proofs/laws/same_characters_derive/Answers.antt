use Rattle.text_patterns.proofs.Alike.{same-derivative, same-in-after}
use Rattle.text_patterns.proofs.laws.same_characters_derive.Goals as goal

pub returns-clause-same : goal.returns-clause-same
returns-clause-same c = same-derivative

pub returns-clause-behind : goal.returns-clause-behind
returns-clause-behind c = same-in-after
