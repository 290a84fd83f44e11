use Rattle.text_patterns.proofs.Derivatives.{nullable-gives, nullable-takes}
use Rattle.text_patterns.proofs.laws.nullable_patterns_take_nothing.Goals as goal

pub returns-clause-takes : goal.returns-clause-takes
returns-clause-takes c = nullable-gives

pub returns-clause-only : goal.returns-clause-only
returns-clause-only c = nullable-takes
