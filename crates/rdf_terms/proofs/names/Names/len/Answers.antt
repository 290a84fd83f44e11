use Rattle.std.proofs.Common.{string_bytes, refl}
use Rattle.std.specs.Str.{bytes_eq}
use Rattle.rdf_terms.proofs.Numbered.{distinct_map}
use Rattle.rdf_terms.proofs.names.Names.len.Goals as goal

pub returns-clause-distinct : goal.returns-clause-distinct
returns-clause-distinct c = rw (← c.self.view_is) (record {
  iris = distinct_map bytes_eq _ string_bytes (λ a b. refl) c.self.inside.iris.keys c.len.ensures.unique;
  literals = c.len-2.ensures.unique;
})
