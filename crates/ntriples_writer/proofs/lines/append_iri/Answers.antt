use Rattle.std.specs.Str.{IsUtf8}
use Rattle.ntriples_writer.specs.Lines.{iri_text}
use Rattle.ntriples_writer.proofs.Whole.{on_ok, iri_utf8}
use Rattle.ntriples_writer.proofs.lines.append_iri.Goals as goal

pub returns-clause-utf8 : goal.returns-clause-utf8
returns-clause-utf8 c = on_ok c.extend_from_slice-2.result (IsUtf8 (iri_text c.args.iri.now)) (iri_utf8 c.args.iri.now c.utf8.iri)
