use Rattle.text_places.proofs.Counting.{lines_ascend, columns_ascend}
use Rattle.text_places.proofs.laws.places_ascend.Goals as goal

pub returns-clause-lines : goal.returns-clause-lines
returns-clause-lines c = lines_ascend

pub returns-clause-columns : goal.returns-clause-columns
returns-clause-columns c = columns_ascend
