use Rattle.text_patterns.proofs.Engine.{reads_whole, reads_whole_alone}
use Rattle.text_patterns.proofs.laws.machines_decide.Goals as goal

pub returns-clause-spelled : goal.returns-clause-spelled
returns-clause-spelled g c = λ m right. reads_whole m right

pub returns-clause-accepted : goal.returns-clause-accepted
returns-clause-accepted g c = λ m right. reads_whole_alone m right
