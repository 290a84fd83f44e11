use Rattle.rdf_terms.proofs.Held.{distinct_triples}
use Rattle.rdf_terms.proofs.triples.Triples.len.Goals as goal

pub returns-clause-distinct : goal.returns-clause-distinct
returns-clause-distinct c = rw (← c.self.view_is) (distinct_triples c.self.inside.places.entries c.len.ensures.unique)
