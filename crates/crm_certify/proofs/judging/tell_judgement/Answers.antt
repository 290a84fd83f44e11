use Rattle.std.proofs.Common.{refl, ℕ, List, Option, Result, inr, codes}
use Rattle.std.specs.Prelude.{MatchOption}
use Rattle.rdf_terms.specs.declared.triples.Records.{Records}
use Rattle.certificate_trees.specs.declared.refusals.CertRefusal.{CertRefusal}
use Rattle.certificate_trees.specs.declared.refusals.CertRefusal.TheVariants.{K1, K2, K3, K4, K5, K6, Memory}
use Rattle.certificate_checker.specs.Texts.{CertificateForm, IsRefusedAs}
use Rattle.report_base.specs.declared.status.Status.{Status}
use Rattle.report_base.specs.declared.status.ReportFault.{ReportFault}
use Rattle.report_base.specs.Reports.{Report, Writes}
use Rattle.crm_certify.specs.Verdicts.{WritesJudged, refusal_report, refused_at}
use Rattle.crm_certify.proofs.judging.tell_judgement.Goals as goal

module _ {S : Type 0} (written : S → Option (List ℕ)) (faults sure : S → ℕ) (a b : S) (r : Records) (cert : List ℕ) (x : Result Status ReportFault) where
  -- a refusal is a judgement; want of memory may break off any
  refused : (f : CertRefusal) → IsRefusedAs CertificateForm 64 cert 0 f
      → MatchOption (refusal_report f) ((j : Report) → Writes written faults sure a b j x) (λ j. Writes written faults sure a b j x)
      → WritesJudged written faults sure a b r cert x
  refused (K1 at) h p = (refused_at (codes "K1") at, (inr (inr (K1 at, (refl, h))), p))
  refused (K2 at) h p = (refused_at (codes "K2") at, (inr (inr (K2 at, (refl, h))), p))
  refused (K3 at) h p = (refused_at (codes "K3") at, (inr (inr (K3 at, (refl, h))), p))
  refused (K4 at) h p = (refused_at (codes "K4") at, (inr (inr (K4 at, (refl, h))), p))
  refused (K5 at) h p = (refused_at (codes "K5") at, (inr (inr (K5 at, (refl, h))), p))
  refused (K6 at) h p = (refused_at (codes "K6") at, (inr (inr (K6 at, (refl, h))), p))
  refused Memory h p = (refused_at (codes "K3") 0, (inr (inr (K3 0, (refl, tt))), p (refused_at (codes "K3") 0)))

pub returns-in-Err-judge : goal.returns-in-Err-judge
returns-in-Err-judge g c =
    refused g.W.Sink.written g.W.Sink.faults g.W.Sink.sure _ _ c.args.records.now c.args.cert.now _ _ c.in-Err-judge.ensures.refused c.tell_refusal.ensures
