use Rattle.std.proofs.Common.{◌≡◌, Err, sym, subst}
use Rattle.std.specs.Prelude.{Result}
use Rattle.rdf_terms.specs.declared.terms.Refusal.{Refusal}
use Rattle.rdf_terms.specs.declared.triples.Records.{Records}
use Rattle.report_base.specs.Reports.{Writes}
use Rattle.report_base.proofs.Limits.{starved_written}
use Rattle.allen_reports.specs.Reports.{of_modern}
use Rattle.crm_legacy.specs.declared.gathering.ModernFault.{ModernFault}
use Rattle.crm_legacy.specs.Causes.{IsCause}
use Rattle.crm_legacy.specs.Modern.{modern_of}
use Rattle.allen_reports.proofs.moving.tell_fault.Goals as goal

pub returns-in-Refused : goal.returns-in-Refused
returns-in-Refused g c = λ r report h.
    let e : modern_of r ≡ Err c.in-Refused.refusal = subst (λ (f : ModernFault). IsCause (modern_of r) f) c.in-Refused.is h in
    subst (λ (m : Result Records Refusal). Writes g.W.Sink.written g.W.Sink.faults g.W.Sink.sure c.args.out.now c.tell_refusal.new.out (of_modern report m) c.tell_refusal.result)
    (sym e) c.tell_refusal.ensures

pub returns-in-Memory : goal.returns-in-Memory
returns-in-Memory g c = λ r report h. starved_written g.W.Sink.written g.W.Sink.faults g.W.Sink.sure _ (of_modern report (modern_of r))
