use Rattle.std.proofs.Common.{subst, ◌∙◌}
use Rattle.std.specs.Str.{IsUtf8}
use Rattle.ntriples_writer.specs.Lines.{literal_text, ending_text}
use Rattle.ntriples_writer.proofs.Whole.{on_ok_map, literal_utf8}
use Rattle.ntriples_writer.proofs.lines.append_literal.Goals as goal

pub returns-clause-utf8 : goal.returns-clause-utf8
returns-clause-utf8 c = on_ok_map c.append_ending.result (IsUtf8 (ending_text c.args.literal.now)) (IsUtf8 (literal_text c.args.literal.now))
    (literal_utf8 c.args.literal.now (subst IsUtf8 (c.as_bytes.ensures.value ∙ c.as_str.ensures) c.as_bytes.ensures.utf8)) c.append_ending.ensures.utf8
