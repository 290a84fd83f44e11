use Rattle.std.proofs.Common.{Err, Some, ap, refl}
use Rattle.crm_outside.specs.Causes.{Rose}
use Rattle.crm_outside.specs.Shelves.{Files}
use Rattle.crm_outside.specs.declared.taking.TakeFault.{TakeFault}
use Rattle.rdf_terms.specs.declared.terms.Code.TheVariants.{L1}
use Rattle.report_base.specs.declared.status.Status.TheVariants.{Refused}
use Rattle.record_reports.specs.RecordReports.{refusal_report}
use Rattle.crm_run.specs.Outcomes.{ended}
use Rattle.crm_run.specs.Report.{bytes_report, listing_said}
use Rattle.crm_run.proofs.Endings.{write_end, written_ends}
use Rattle.crm_run.proofs.Listed.{too_long}
use Rattle.crm_run.proofs.Parts.{on_failed, on_long}
use Rattle.crm_run.proofs.Runs.{listing_run}
use Rattle.crm_run.proofs.Usages.{is_ending, no_read_fault, refusal_no_usage}
use Rattle.crm_run.proofs.listing.run_listing.Goals as goal

pub returns-in-Err-Failed : goal.returns-in-Err-Failed
returns-in-Err-Failed g c =
    let is = ap (λ (x : TakeFault). Err x) c.in-Err-Failed.field-0-is in
    listing_run g.W.Sink.written g.W.Sink.faults g.W.Sink.sure c.args.out.now c.print_read_fault.new.out (g.S.Shelf.files c.args.shelf.now) (g.S.Shelf.honest c.args.shelf.now)
    (Rose (g.S.Shelf.faults c.args.shelf.now) (g.S.Shelf.faults c.read_all.new.shelf)) c.args.base.now c.args.file.now c.args.listing c.print_read_fault.result
    (on_failed g.W.Sink.written g.W.Sink.faults g.W.Sink.sure c.args.out.now c.print_read_fault.new.out (g.S.Shelf.files c.args.shelf.now) (g.S.Shelf.honest c.args.shelf.now)
    (Rose (g.S.Shelf.faults c.args.shelf.now) (g.S.Shelf.faults c.read_all.new.shelf)) c.args.file.now
    (λ (files : Files). bytes_report c.args.file.now (listing_said c.args.base.now c.args.file.now c.args.listing) (files c.args.file.now)) c.print_read_fault.result
    (listing_said c.args.base.now c.args.file.now c.args.listing) (λ files. refl) (c.in-Err-Failed.ensures.failed is)
    (λ honest. (c.in-Err-Failed.ensures.missing honest).0 is) c.print_read_fault.ensures)

pub returns-in-Err-TooLong : goal.returns-in-Err-TooLong
returns-in-Err-TooLong g c =
    let is = ap (λ (x : TakeFault). Err x) c.in-Err-TooLong.field-0-is in
    let ends = written_ends g.W.Sink.written g.W.Sink.faults g.W.Sink.sure c.args.out.now c.write_refusal.new.out (refusal_report (record { code = L1; at = 67108864 }))
    c.write_refusal.result c.write_refusal.ensures in
    rw c.ended-in-Err-TooLong.ensures
    (listing_run g.W.Sink.written g.W.Sink.faults g.W.Sink.sure c.args.out.now c.write_refusal.new.out (g.S.Shelf.files c.args.shelf.now) (g.S.Shelf.honest c.args.shelf.now)
    (Rose (g.S.Shelf.faults c.args.shelf.now) (g.S.Shelf.faults c.read_all.new.shelf)) c.args.base.now c.args.file.now c.args.listing (ended c.write_refusal.result)
    (on_long g.W.Sink.written g.W.Sink.faults g.W.Sink.sure c.args.out.now c.write_refusal.new.out (g.S.Shelf.files c.args.shelf.now) (g.S.Shelf.honest c.args.shelf.now)
    (Rose (g.S.Shelf.faults c.args.shelf.now) (g.S.Shelf.faults c.read_all.new.shelf)) c.args.file.now
    (λ (files : Files). bytes_report c.args.file.now (listing_said c.args.base.now c.args.file.now c.args.listing) (files c.args.file.now)) (ended c.write_refusal.result)
    (listing_said c.args.base.now c.args.file.now c.args.listing) (λ files. refl) (Some (refusal_report (record { code = L1; at = 67108864 })))
    (too_long c.args.base.now c.args.file.now c.args.listing) (c.in-Err-TooLong.ensures.too_long is) ends
    (refusal_no_usage c.write_refusal.result c.write_refusal.ensures.status)
    (no_read_fault c.write_refusal.result (is_ending c.write_refusal.result Refused c.write_refusal.ensures.status))
    (write_end g.W.Sink.written g.W.Sink.faults g.W.Sink.sure c.args.out.now c.write_refusal.new.out (refusal_report (record { code = L1; at = 67108864 }))
    (ended c.write_refusal.result) ends)))
