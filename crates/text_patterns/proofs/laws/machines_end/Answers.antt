use Rattle.text_patterns.proofs.Engine.{reads_ended, reads_none}
use Rattle.text_patterns.proofs.laws.machines_end.Goals as goal

pub returns-clause-first : goal.returns-clause-first
returns-clause-first g c = λ m right. reads_ended m right

pub returns-clause-none : goal.returns-clause-none
returns-clause-none g c = λ m right. reads_none m right
