use Rattle.std.proofs.Common.{◌≡◌, ◌++◌, drop, string_bytes}
use lib.Utf8.{encodes}
use Rattle.std.specs.Prelude.{map}
use Rattle.std.specs.Char.{to_ascii_lowercase}
use Rattle.ntriples_reader.proofs.line.put_lowercase.Given as goal

abbrev pub invariant-loop-c : goal.invariant-loop-c
invariant-loop-c l = string_bytes l.out ++ encodes (map to_ascii_lowercase (drop l.c-index l.chars)) ≡ encodes (map to_ascii_lowercase l.chars)
