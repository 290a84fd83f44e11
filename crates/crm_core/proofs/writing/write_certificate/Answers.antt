use Rattle.std.proofs.Common.{subst}
use Rattle.rdf_terms.specs.declared.triples.Records.{Records}
use Rattle.crm_certify.specs.Certificates.{WritesCertificate}
use Rattle.crm_core.proofs.writing.write_certificate.Goals as goal

pub returns : goal.returns
returns g c =
    subst (λ (r : Records). WritesCertificate g.W.Sink.written g.W.Sink.faults g.W.Sink.sure c.args.out.now c.report_certificate.new.out r c.args.kind c.report_certificate.result) c.records.ensures c.report_certificate.ensures
