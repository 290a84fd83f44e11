use Rattle.reading_laws.proofs.Escapes.{iri_value, string_value}
use Rattle.reading_laws.proofs.laws.values_are_those_of_the_parts.Goals as goal

pub returns : goal.returns
returns c = record { iris = iri_value; strings = string_value }
