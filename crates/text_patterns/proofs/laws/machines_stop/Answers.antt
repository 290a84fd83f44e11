use Rattle.text_patterns.proofs.Engine.{reads_begins, stops_here}
use Rattle.text_patterns.proofs.laws.machines_stop.Goals as goal

pub returns-clause-begins : goal.returns-clause-begins
returns-clause-begins g c = λ m right. reads_begins m right

pub returns-clause-stops : goal.returns-clause-stops
returns-clause-stops g c = λ m right. stops_here m right
