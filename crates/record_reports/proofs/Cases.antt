-- Records as a pool that was just built.
use Rattle.std.proofs.Common.{◌≡◌, ℕ, suc, List, [], ◌∷◌, refl, ap}
use Rattle.std.specs.Prelude.{map}
use Rattle.rdf_terms.specs.declared.terms.Triple.{Triple}
use Rattle.rdf_terms.specs.declared.triples.Records.{Records}
use Rattle.triple_pool.specs.Pool.{number_from}
use Rattle.report_base.specs.Reports.{Report, faults_in, status_by}
use Rattle.report_base.specs.Texts.{check_text}
use Rattle.record_reports.specs.RecordReports.{check_of, check_report}

-- the triples of a list under numbers are those of the list
pub numbered_triples : (n : ℕ) (ts : List Triple) → map (λ (p : ℕ × Triple). p.1) (number_from n ts) ≡ ts
numbered_triples n [] = refl
numbered_triples n (t ∷ ts) = ap (λ (us : List Triple). t ∷ us) (numbered_triples (suc n) ts)

pub check_of_records : (r : Records) → check_of r.names (number_from 0 r.triples) ≡ check_report r
check_of_records r = ap (λ (ts : List Triple). record { status = status_by (faults_in r); text = check_text ts (faults_in r) }) (numbered_triples 0 r.triples)
