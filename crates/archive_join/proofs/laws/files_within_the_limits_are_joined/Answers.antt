use Rattle.archive_join.proofs.Growing.{not_refused}
use Rattle.archive_join.proofs.laws.files_within_the_limits_are_joined.Goals as goal

pub returns : goal.returns
returns c = λ start xs f few h. not_refused start xs f few h
