use Rattle.crm_legacy.proofs.Saying.{said_alike}
use Rattle.crm_legacy.proofs.laws.replacements_say_the_relation.Goals as goal

pub returns : goal.returns
returns c = λ property inverse a b dates placing. said_alike dates placing property inverse a b
