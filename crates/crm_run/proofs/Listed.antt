-- What is told of a file that is too long.
use Rattle.std.proofs.Common.{◌≡◌, ℕ, ◌<◌, List, length, Bool, true, Option, Some, ap, arith}
use Rattle.std.specs.Prelude.{nat_lt}
use Rattle.std.proofs.lemmas.Bool.{cond-true}
use Rattle.std.proofs.lemmas.Bool.Decides.{nat_tests}
use Rattle.rdf_terms.specs.declared.terms.Code.TheVariants.{L1}
use Rattle.rdf_reading.specs.Answers.{Answer}
use Rattle.rdf_reading.specs.Answers.Answer.{Refuse}
use Rattle.record_reports.specs.RecordReports.{refusal_report}
use Rattle.crm_core.specs.Files.{file_answer, is_ntriples, text_answer}
use Rattle.command_words.specs.declared.tasks.Listing.{Listing}
use Rattle.crm_run.specs.Report.{listing_by, listing_said}

long_answer : (is_ntriples : Bool) (base : Option (List ℕ)) (bytes : List ℕ) → 67108864 < length bytes → file_answer is_ntriples base bytes ≡ Refuse L1 67108864
unfolding file_answer
long_answer is_ntriples base bytes lt =
    let over : nat_lt 67108864 (length bytes) ≡ true = grind (arith, nat_tests) in
    cond-true (nat_lt 67108864 (length bytes)) (Refuse L1 67108864) (text_answer is_ntriples base bytes) over

pub too_long : (base : Option (List ℕ)) (name : List ℕ) (l : Listing) (bytes : List ℕ) → 67108864 < length bytes →
    listing_said base name l bytes ≡ Some (refusal_report (record { code = L1; at = 67108864 }))
too_long base name l bytes lt = ap (λ (x : Answer). Some (listing_by l bytes x)) (long_answer (is_ntriples name) base bytes lt)
