use Rattle.reading_laws.proofs.Turtled.{turtle_orderly}
use Rattle.reading_laws.proofs.Lined.{lines_orderly}
use Rattle.reading_laws.proofs.laws.what_is_read_is_orderly.Goals as goal

pub returns : goal.returns
returns c = record { lines = lines_orderly; turtle = turtle_orderly }
