use Rattle.text_patterns.proofs.Derivatives.{derivative-gives, derivative-takes}
use Rattle.text_patterns.proofs.laws.derivatives_complete.Goals as goal

pub returns-clause-completes : goal.returns-clause-completes
returns-clause-completes c = derivative-gives

pub returns-clause-all : goal.returns-clause-all
returns-clause-all c = derivative-takes
