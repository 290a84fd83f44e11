use Rattle.std.proofs.Common.{subst, sym, length, ◌≡◌, false}
use Rattle.std.specs.Prelude.{◌==◌}
use Rattle.std.specs.Str.{IsUtf8}
use Rattle.ntriples_writer.specs.Lines.{ending_text}
use Rattle.ntriples_writer.proofs.Whole.{on_ok, tag_utf8}
use Rattle.ntriples_writer.proofs.lines.append_ending.Goals as goal

pub returns-clause-utf8 : goal.returns-clause-utf8
returns-clause-utf8 c = on_ok c.extend_from_slice.result (IsUtf8 (ending_text c.args.literal.now))
    (tag_utf8 c.args.literal.now (subst IsUtf8 c.as_str-tag.ensures c.as_str-tag.utf8) (subst (λ x. (length x == 0) ≡ false) c.as_str-tag.ensures (sym c.if-is_empty.ensures)))
