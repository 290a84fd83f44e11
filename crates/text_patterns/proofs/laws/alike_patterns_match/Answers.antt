use Rattle.text_patterns.proofs.Alike.{alike-to, alike-from}
use Rattle.text_patterns.proofs.laws.alike_patterns_match.Goals as goal

pub returns-clause-first : goal.returns-clause-first
returns-clause-first c = alike-to

pub returns-clause-second : goal.returns-clause-second
returns-clause-second c = alike-from
