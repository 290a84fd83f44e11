-- What an archive holds.
use Rattle.std.specs.Prelude.{ℕ}
use Rattle.rdf_terms.specs.declared.triples.Records.{Records}

-- the names and triples of a file, and how many bytes it has
pub record Contents : Type 0 where
  pub records : Records
  pub length : ℕ
