use Rattle.std.proofs.Common.{◌≡◌, ◌≤◌, ◌+◌, ◌++◌, drop, string_bytes}
use Rattle.std.specs.Prelude.{cond}
use lib.Utf8.{encodes}
use Rattle.token_scanner.specs.Widths.{width}
use Rattle.turtle_lexer.specs.Values.{name, local_name, before_colon}
use Rattle.turtle_lexer.proofs.values.put_name.Given as goal

abbrev pub invariant-loop-c : goal.invariant-loop-c
invariant-loop-c l = (string_bytes l.out ++ encodes (cond l.local (local_name (drop l.c-index l.chars)) (name (drop l.c-index l.chars))) ≡ encodes (name l.chars))
    × (cond l.local l.cut (l.cut + width (before_colon (drop l.c-index l.chars))) ≡ width (before_colon l.chars))
    × (l.cut + width (drop l.c-index l.chars) ≤ width l.chars)
