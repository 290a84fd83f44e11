use Rattle.std.proofs.Common.{◌≡◌, ◌++◌, drop, string_bytes}
use lib.Utf8.{encodes}
use Rattle.rdf_reading.proofs.values.put_chars.Given as goal

abbrev pub invariant-loop-c : goal.invariant-loop-c
invariant-loop-c l = string_bytes l.out ++ encodes (drop l.c-index l.chars) ≡ encodes l.chars
