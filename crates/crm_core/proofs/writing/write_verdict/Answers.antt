use Rattle.std.proofs.Common.{subst}
use Rattle.rdf_terms.specs.declared.triples.Records.{Records}
use Rattle.crm_certify.specs.Verdicts.{WritesVerdict}
use Rattle.crm_core.proofs.writing.write_verdict.Goals as goal

pub returns : goal.returns
returns g c =
    subst (λ (r : Records). WritesVerdict g.W.Sink.written g.W.Sink.faults g.W.Sink.sure c.args.out.now c.report_verdict.new.out r c.args.cert.now c.report_verdict.result) c.records.ensures c.report_verdict.ensures
