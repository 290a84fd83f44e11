use Rattle.std.proofs.Common.{ℕ, List, codes, subst}
use Rattle.std.proofs.lemmas.Result.{err_from_is_err_and}
use Rattle.crm_outside.specs.Printing.{Printed, Broken, Prints, lines_from}
use Rattle.crm_outside.proofs.PrintedTexts.{broken_front, broken_later, prints_then}
use Rattle.order_core.specs.Sets.{Orders}
use Rattle.order_laws.specs.declared.Point.{Point}
use Rattle.reason_report.specs.Reason.{plain_line, delay_line}
use Rattle.dating_reports.specs.Bounds.{bound_lines}
use Rattle.dating_reports.proofs.around.print_parts.Goals as goal

pub returns-in_err-print_text : goal.returns-in_err-print_text
returns-in_err-print_text g c =
    let p = err_from_is_err_and c.from_residual.result c.from_residual.ensures.1 in
    rw (p.1, p.2) (record { ok = tt; err = broken_front g.W.Sink.written g.W.Sink.faults g.W.Sink.sure _ _ _ _ _ c.in_err-print_text.ensures.prints.err })

pub returns-in_err-print_plain : goal.returns-in_err-print_plain
returns-in_err-print_plain g c =
    let p = err_from_is_err_and c.from_residual-in_err-print_plain.result c.from_residual-in_err-print_plain.ensures.1 in
    let plain = subst (λ (x : Orders). Broken g.W.Sink.written g.W.Sink.faults g.W.Sink.sure c.print_text.new.out c.print_plain.new.out (plain_line x) c.in_err-print_plain.field-0.0) c.requires.placings c.in_err-print_plain.ensures.err in
    rw (p.1, p.2) (record {
      ok = tt;
      err = broken_later g.W.Sink.written g.W.Sink.faults g.W.Sink.sure _ _ _ _ _ _ c.in_ok-print_text.ensures.prints.ok (broken_front g.W.Sink.written g.W.Sink.faults g.W.Sink.sure _ _ _ _ _ plain);
    })

pub returns-in_err-print_all_bounds : goal.returns-in_err-print_all_bounds
returns-in_err-print_all_bounds g c =
    let p = err_from_is_err_and c.from_residual-in_err-print_all_bounds.result c.from_residual-in_err-print_all_bounds.ensures.1 in
    let plain = subst (λ (x : Orders). Printed g.W.Sink.written g.W.Sink.faults g.W.Sink.sure c.print_text.new.out c.print_plain.new.out (plain_line x)) c.requires.placings c.in_ok-print_plain.ensures.ok in
    let bounds = subst (λ (ps : List Point). Broken g.W.Sink.written g.W.Sink.faults g.W.Sink.sure c.print_plain.new.out c.print_all_bounds.new.out (lines_from (λ _ q. bound_lines c.args.analysis.now.set q) 0 ps) c.in_err-print_all_bounds.field-0.0)
    c.requires.points c.in_err-print_all_bounds.ensures.err in
    rw (p.1, p.2) (record {
      ok = tt;
      err = broken_later g.W.Sink.written g.W.Sink.faults g.W.Sink.sure _ _ _ _ _ _ c.in_ok-print_text.ensures.prints.ok
          (broken_later g.W.Sink.written g.W.Sink.faults g.W.Sink.sure _ _ _ _ _ _ plain (broken_front g.W.Sink.written g.W.Sink.faults g.W.Sink.sure _ _ _ _ _ bounds));
    })

pub returns : goal.returns
returns g c =
    let plain = subst (λ (x : Orders). Printed g.W.Sink.written g.W.Sink.faults g.W.Sink.sure c.print_text.new.out c.print_plain.new.out (plain_line x)) c.requires.placings c.in_ok-print_plain.ensures.ok in
    let bounds = subst (λ (ps : List Point). Printed g.W.Sink.written g.W.Sink.faults g.W.Sink.sure c.print_plain.new.out c.print_all_bounds.new.out (lines_from (λ _ q. bound_lines c.args.analysis.now.set q) 0 ps))
    c.requires.points c.in_ok-print_all_bounds.ensures.ok in
    let delays = subst (λ (x : Orders). Prints g.W.Sink.written g.W.Sink.faults g.W.Sink.sure c.print_all_bounds.new.out c.print_all_delays.new.out (lines_from (λ _ q. delay_line x q) 0 c.args.points.now) c.print_all_delays.result)
    c.requires.placings c.print_all_delays.ensures in
    let listed = subst (λ (ps : List Point). Prints g.W.Sink.written g.W.Sink.faults g.W.Sink.sure c.print_all_bounds.new.out c.print_all_delays.new.out (lines_from (λ _ q. delay_line c.args.analysis.now.set q) 0 ps) c.print_all_delays.result)
    c.requires.points delays in
    prints_then g.W.Sink.written g.W.Sink.faults g.W.Sink.sure _ _ _ _ _ _ c.in_ok-print_text.ensures.prints.ok
    (prints_then g.W.Sink.written g.W.Sink.faults g.W.Sink.sure _ _ _ _ _ _ plain (prints_then g.W.Sink.written g.W.Sink.faults g.W.Sink.sure _ _ _ _ _ _ bounds listed))
