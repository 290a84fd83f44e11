use Rattle.std.proofs.Common.{◌≡◌, ℕ, List, length, map, sym, ap, subst, ◌∙◌}
use Rattle.std.proofs.lemmas.List.{length-map}
use Rattle.rdf_terms.specs.declared.terms.Triple.{Triple}
use Rattle.crm_outside.specs.Printing.{Printed}
use Rattle.crm_type_check.specs.declared.Fault.{Fault}
use Rattle.report_base.specs.Reports.{status_by}
use Rattle.report_base.specs.Texts.{check_text}
use Rattle.record_reports.proofs.reports.report_check.Goals as goal

pub returns : goal.returns
returns g c =
    let triples : List Triple = map (λ (p : ℕ × Triple). p.1) c.args.pool.now.pairs in
    let count : c.len.result ≡ length triples = c.len.ensures.count ∙ sym (length-map c.args.pool.now.pairs (λ (p : ℕ × Triple). p.1)) in
    let told = c.in_ok-print_faults.ensures triples count in
    record {
      status = (c.status_of.ensures.status ∙ ap status_by c.in_ok-faults.ensures, c.status_of.ensures.ending);
      ok = subst (λ (fs : List Fault). Printed g.W.Sink.written g.W.Sink.faults g.W.Sink.sure c.args.out.now c.print_faults.new.out (check_text triples fs)) c.in_ok-faults.ensures told.ok;
      err = tt;
    }
