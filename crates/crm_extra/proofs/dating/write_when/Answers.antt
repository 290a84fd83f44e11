use mir.Syntax.{w128}
use mir.Val.{SFits, to_z, of_z}
use Rattle.std.proofs.Common.{ℤ, subst, rules}
use Rattle.std.proofs.lemmas.Int.{to_z-of_z}
use Rattle.rdf_terms.specs.declared.triples.Records.{Records}
use Rattle.report_base.specs.Reports.{Writes}
use Rattle.dating_reports.specs.When.{when_report}
use Rattle.crm_extra.proofs.dating.write_when.Goals as goal

pub returns : goal.returns
returns g c =
    let fit : SFits w128 c.args.t = search rules in
    subst (λ (t : ℤ). Writes g.W.Sink.written g.W.Sink.faults g.W.Sink.sure c.args.out.now c.report_when.new.out (when_report c.args.archive.now.records t) c.report_when.result)
    (to_z-of_z w128 c.args.t fit)
    (subst (λ (r : Records). Writes g.W.Sink.written g.W.Sink.faults g.W.Sink.sure c.args.out.now c.report_when.new.out (when_report r (to_z w128 (of_z w128 c.args.t))) c.report_when.result) c.records.ensures c.report_when.ensures)
