use Rattle.reading_laws.proofs.Back.{turtle_back}
use Rattle.reading_laws.proofs.laws.canonical_lines_of_turtle_read_back.Goals as goal

pub returns : goal.returns
returns c = turtle_back
