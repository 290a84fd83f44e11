-- Why records have no modern form.
use Rattle.std.specs.Prelude.{◌≡◌, ℕ, Result, Ok, Err, ⊤}
use Rattle.rdf_terms.specs.declared.names.NameFault.{NameFault}
use Rattle.rdf_terms.specs.declared.names.NameFault.TheVariants as name
use Rattle.rdf_terms.specs.declared.terms.Code.TheVariants.{L4, L5}
use Rattle.rdf_terms.specs.declared.terms.Refusal.{Refusal}
use Rattle.rdf_terms.specs.declared.triples.Records.{Records}
use Rattle.rdf_terms.specs.declared.triples.TripleFault.{TripleFault}
use Rattle.rdf_terms.specs.declared.triples.TripleFault.TheVariants as triple
use Rattle.crm_legacy.specs.declared.gathering.ModernFault.{ModernFault}
use Rattle.crm_legacy.specs.declared.gathering.ModernFault.TheVariants.{Refused, Memory}

-- a refusal is the one that the records have; want of memory may always be
abbrev pub IsCause : Result Records Refusal → ModernFault → Type 0
IsCause r (Refused f) = r ≡ Err f
IsCause r Memory = ⊤

abbrev pub name_fault : NameFault → ℕ → ModernFault
name_fault name.TooMany at = Refused (record { code = L5; at = at })
name_fault name.Memory at = Memory

abbrev pub triple_fault : TripleFault → ℕ → ModernFault
triple_fault triple.TooMany at = Refused (record { code = L4; at = at })
triple_fault triple.Memory at = Memory
