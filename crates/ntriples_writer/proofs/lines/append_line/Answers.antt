use Rattle.ntriples_writer.proofs.Whole.{line_utf8}
use Rattle.ntriples_writer.proofs.lines.append_line.Goals as goal

pub returns-clause-utf8 : goal.returns-clause-utf8
returns-clause-utf8 c = line_utf8 c.args.names.now c.args.t c.in_ok-append_term.ensures.utf8 c.in_ok-append_term-2.ensures.utf8 c.in_ok-append_term-3.ensures.utf8
