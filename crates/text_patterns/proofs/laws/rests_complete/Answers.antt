use Rattle.text_patterns.proofs.Derivatives.{after-gives, after-takes}
use Rattle.text_patterns.proofs.laws.rests_complete.Goals as goal

pub returns-clause-completes : goal.returns-clause-completes
returns-clause-completes c = after-gives

pub returns-clause-all : goal.returns-clause-all
returns-clause-all c = after-takes
