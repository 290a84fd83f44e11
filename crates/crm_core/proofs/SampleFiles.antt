-- The report of a sample by the answer to its file.
use Rattle.std.proofs.Common.{◌≡◌, ℕ, refl}
use Rattle.rdf_terms.specs.declared.terms.Refusal.{Refusal}
use Rattle.rdf_terms.specs.declared.triples.Records.{Records}
use Rattle.rdf_reading.specs.Answers.{Answer}
use Rattle.rdf_reading.specs.Answers.Answer.{Read, Refuse}
use Rattle.record_reports.specs.RecordReports.{refusal_report}
use Rattle.crm_matrix.specs.Samples.{records_report}
use Rattle.crm_core.specs.SampleReports.{answer_report}

pub read_report : (n : ℕ) (r : Records) (a : Answer) → a ≡ Read r → answer_report n a ≡ records_report n r
read_report n r a is = rw is refl

pub refused_report : (n : ℕ) (f : Refusal) (a : Answer) → a ≡ Refuse f.code f.at → answer_report n a ≡ refusal_report f
refused_report n f a is = rw is refl
