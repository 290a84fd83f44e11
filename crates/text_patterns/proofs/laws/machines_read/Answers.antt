use Rattle.text_patterns.proofs.Engine.{reads_start, reads_step}
use Rattle.std.proofs.Common.{refl}
use Rattle.text_patterns.proofs.laws.machines_read.Goals as goal

pub returns-clause-starts : goal.returns-clause-starts
returns-clause-starts g c = λ m right. reads_start m right

pub returns-clause-steps : goal.returns-clause-steps
returns-clause-steps g c = λ m right text i p q last low char reads next. reads_step m right text i p q last (m.accepts q) low char reads next refl
