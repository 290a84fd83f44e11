-- The limits of what several files hold together.
use Rattle.std.specs.Prelude.{ℕ, ◌≡◌, ◌≤◌, ◌<◌, ◌⊎◌, nat_lt, if◌then◌else◌, List, [], ◌∷◌, ◌++◌, length, Option, Some, None, ⊤}
use Rattle.rdf_terms.specs.declared.terms.Code.{Code}
use Rattle.rdf_terms.specs.declared.terms.Code.TheVariants.{L4, L5}
use Rattle.rdf_terms.specs.declared.terms.Refusal.{Refusal}
use Rattle.rdf_terms.specs.declared.names.NameFault.{NameFault}
use Rattle.rdf_terms.specs.declared.names.NameFault.TheVariants as name
use Rattle.rdf_terms.specs.declared.triples.TripleFault.{TripleFault}
use Rattle.rdf_terms.specs.declared.triples.TripleFault.TheVariants as triple
use Rattle.rdf_terms.specs.declared.triples.Records.{Records}
use Rattle.rdf_terms.specs.Naming.{name_count}
use Rattle.joined_names.specs.Values.{ValueTriple, with_values, with_all}
use Rattle.archive_join.specs.declared.faults.JoinFault.{JoinFault}
use Rattle.archive_join.specs.declared.faults.JoinFault.TheVariants as join

-- at most 262,144 names, and as many triples
pub record AreFew (r : Records) : Type 0 where
  pub names : name_count r.names ≤ 262144
  pub triples : length r.triples ≤ 262144

-- too many names; or not, and too many triples
abbrev pub IsPast : Records → Code → Type 0
IsPast r code = ((code ≡ L5) × (262144 < name_count r.names)) ⊎ ((code ≡ L4) × (name_count r.names ≤ 262144) × (262144 < length r.triples))

-- The refusal is at the first triple with which a limit is passed.
pub record IsFirstPast (start : Records) (xs : List ValueTriple) (f : Refusal) : Type 0 where
  pub done : List ValueTriple
  pub first : ValueTriple
  pub rest : List ValueTriple
  pub all : xs ≡ done ++ first ∷ rest
  pub few : AreFew (with_all start done)
  pub past : IsPast (with_values (with_all start done) first) f.code
  pub at : f.at ≡ first.at

-- that refusal, if there is one
unfoldable pub first_past : Records → List ValueTriple → Option Refusal
first_past r [] = None
first_past r (x ∷ xs) =
    if nat_lt 262144 (name_count (with_values r x).names) then Some (record { code = L5; at = x.at }) else
    if nat_lt 262144 (length (with_values r x).triples) then Some (record { code = L4; at = x.at }) else
    first_past (with_values r x) xs

abbrev pub name_fault : NameFault → ℕ → JoinFault
name_fault name.TooMany at = join.Refused (record { code = L5; at = at })
name_fault name.Memory at = join.Memory

abbrev pub triple_fault : TripleFault → ℕ → JoinFault
triple_fault triple.TooMany at = join.Refused (record { code = L4; at = at })
triple_fault triple.Memory at = join.Memory

-- with what a triple says, if anything
abbrev pub with_option : Records → Option ValueTriple → Records
with_option r None = r
with_option r (Some x) = with_values r x

-- A limit is passed with what a triple says.
abbrev pub IsPastWith : Records → Option ValueTriple → JoinFault → Type 0
IsPastWith r None join.Memory = ⊤
IsPastWith r None (join.Refused f) = ⊥
IsPastWith r (Some x) join.Memory = ⊤
IsPastWith r (Some x) (join.Refused f) = IsPast (with_values r x) f.code × (f.at ≡ x.at)
