use Rattle.std.specs.Str.{IsUtf8}
use Rattle.ntriples_writer.specs.Lines.{iri_text, datatype_text}
use Rattle.ntriples_writer.proofs.Whole.{on_ok_map, datatype_utf8}
use Rattle.ntriples_writer.proofs.lines.append_datatype.Goals as goal

pub returns-clause-utf8 : goal.returns-clause-utf8
returns-clause-utf8 c = on_ok_map c.append_iri.result (IsUtf8 (iri_text c.args.datatype.now)) (IsUtf8 (datatype_text c.args.datatype.now)) (datatype_utf8 c.args.datatype.now) c.append_iri.ensures.utf8
