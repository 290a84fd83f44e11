use Rattle.reading_laws.proofs.Back.{turtle_iris}
use Rattle.reading_laws.proofs.laws.iris_that_are_read_are_iris.Goals as goal

pub returns : goal.returns
returns c = turtle_iris
