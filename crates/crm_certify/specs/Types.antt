-- What a certificate of classes is judged by: the types that the triples give, and the triples whose classes are incompatible.
use Rattle.std.specs.Prelude.{ℕ, Bool, true, false, cond, Option, None, List, map, filter}
use Rattle.std.specs.List.{filter_map}
use Rattle.std.specs.Option.{option_map}
use Rattle.rdf_terms.specs.declared.terms.Triple.{Triple}
use Rattle.rdf_terms.specs.declared.triples.Records.{Records}
use Rattle.rdf_terms.specs.Naming.{NameLists}
use Rattle.triple_pool.specs.Pool.{number_from}
use Rattle.crm_type_check.specs.Meaning.{class_of, is_type}
use Rattle.crm_type_check.specs.declared.Fault.{Fault}
use Rattle.crm_type_check.specs.declared.FaultKind.{FaultKind}
use Rattle.crm_type_check.specs.declared.FaultKind.TheVariants.{C1, C2, C3, D1, R1, R2, R3, R4, A1}
use Rattle.certificate_checker.specs.declared.class_judge.TypeRow.{TypeRow}
use Rattle.report_base.specs.Reports.{faults_in}

-- the class of the profile that a triple gives its subject
abbrev pub class_given : NameLists → Triple → Option ℕ
class_given names t = cond (is_type names t) (class_of names t.o) None

-- with the triple's number and its subject
abbrev pub type_row : NameLists → ℕ × Triple → Option TypeRow
type_row names p = option_map (λ (c : ℕ). record { triple = p.0; subject = p.1.s; class = c }) (class_given names p.1)

-- of all triples that give one, by number
abbrev pub types_in : Records → List TypeRow
types_in r = filter_map (type_row r.names) (number_from 0 r.triples)

-- a node has incompatible classes
abbrev pub is_c2 : FaultKind → Bool
is_c2 C1 = false
is_c2 C2 = true
is_c2 C3 = false
is_c2 D1 = false
is_c2 R1 = false
is_c2 R2 = false
is_c2 R3 = false
is_c2 (R4 e) = false
is_c2 A1 = false

-- the triples of the faults C2, in the order of the faults
abbrev pub due_of : List Fault → List ℕ
due_of faults = map (λ f. f.triple) (filter (λ f. is_c2 f.kind) faults)

-- the triples that have fault C2, by number
abbrev pub due_in : Records → List ℕ
due_in r = due_of (faults_in r)
