-- What is found of triples.
use Rattle.std.specs.Prelude.{◌≡◌, ℕ, List}
use Rattle.rdf_terms.specs.declared.terms.Triple.{Triple}
use Rattle.rdf_terms.specs.Naming.{NameLists}
use Rattle.crm_type_check.specs.Relations.{faults_of}
use Rattle.boundary_orders.specs.Dossiers.{AreFew, findings_of}
use Rattle.report_base.specs.declared.survey.Survey.{Survey}

-- all faults of the triples, and what those without one say, within the limits
pub record IsSurveyOf (names : NameLists) (triples : List (ℕ × Triple)) (s : Survey) : Type 0 where
  pub faults : s.faults ≡ faults_of names triples
  pub dossier : s.dossier ≡ findings_of names triples (faults_of names triples)
  pub few : AreFew s.dossier
