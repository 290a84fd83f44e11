use Rattle.std.proofs.Common.{sym, subst}
use Rattle.std.specs.Prelude.{Result}
use Rattle.rdf_terms.specs.declared.terms.Refusal.{Refusal}
use Rattle.rdf_terms.specs.declared.triples.Records.{Records}
use Rattle.report_base.specs.Reports.{Writes}
use Rattle.allen_reports.specs.Reports.{of_modern, table_report}
use Rattle.allen_reports.proofs.tables.report_allen.Goals as goal

pub returns-in-Ok : goal.returns-in-Ok
returns-in-Ok g c =
    subst (λ (m : Result Records Refusal). Writes g.W.Sink.written g.W.Sink.faults g.W.Sink.sure c.args.out.now c.tell_table.new.out (of_modern table_report m) c.tell_table.result)
    (sym c.in-Ok.ensures.ok) c.tell_table.ensures

pub returns-in-Err : goal.returns-in-Err
returns-in-Err g c = c.tell_fault.ensures c.args.records.now table_report c.in-Err.ensures.err
