use Rattle.text_patterns.proofs.Engine.{reads_dead, reads_final, reads_open}
use Rattle.text_patterns.proofs.laws.machines_settle.Goals as goal

pub returns-clause-dead : goal.returns-clause-dead
returns-clause-dead g c = λ m right. reads_dead m right

pub returns-clause-closed : goal.returns-clause-closed
returns-clause-closed g c = λ m right. reads_final m right

pub returns-clause-open_ended : goal.returns-clause-open_ended
returns-clause-open_ended g c = λ m right. reads_open m right
