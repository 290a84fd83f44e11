use Rattle.crm_certify.proofs.Limited.{passed_matrix_of, matrix_written}
use Rattle.crm_certify.proofs.writing.tell_matrix_of.Goals as goal

pub returns-in-Ok : goal.returns-in-Ok
returns-in-Ok g c =
    matrix_written g.W.Sink.written g.W.Sink.faults g.W.Sink.sure _ _ c.args.records.now c.in-Ok.survey.dossier
    c.tell_cells_found.result c.in-Ok.ensures.ok.dossier c.in-Ok.ensures.ok.few c.tell_cells_found.ensures

pub returns-in-Err : goal.returns-in-Err
returns-in-Err g c = passed_matrix_of g.W.Sink.written g.W.Sink.faults g.W.Sink.sure _ _ c.args.records.now _ _ c.in-Err.ensures.err c.tell_passed.ensures
