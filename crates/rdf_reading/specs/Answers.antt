-- What a text says: its names and triples, or the first refusal.
use Rattle.std.specs.Prelude.{ℕ, ◌≡◌, Option, None, Some, ⊤}
use Rattle.rdf_terms.specs.declared.terms.Code.{Code}
use Rattle.rdf_terms.specs.declared.terms.Refusal.{Refusal}
use Rattle.rdf_terms.specs.declared.triples.Records.{Records}
use Rattle.rdf_reading.specs.declared.refusals.ReadRefusal.{ReadRefusal}
use Rattle.rdf_reading.specs.declared.refusals.ReadRefusal.TheVariants.{Refused, Memory}

pub data Answer : Type 0 where
  Refuse : Code → ℕ → Answer
  Read : Records → Answer

abbrev pub unless : Option Refusal → Answer → Answer
unless None a = a
unless (Some r) a = Refuse r.code r.at

abbrev pub by_code : Option Code → ℕ → Answer → Answer
by_code None at a = a
by_code (Some c) at a = Refuse c at

abbrev pub IsRefusal : ReadRefusal → Answer → Type 0
IsRefusal (Refused r) a = a ≡ Refuse r.code r.at
IsRefusal Memory a = ⊤
