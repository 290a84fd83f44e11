use Rattle.std.proofs.Common.{◌≡◌, ◌++◌, drop, string_bytes}
use Rattle.std.specs.Prelude.{◌||◌}
use lib.Utf8.{encodes}
use Rattle.rdf_reading.specs.declared.values.Pending.TheVariants.{Plain}
use Rattle.rdf_reading.specs.Values.{value_from, bad_from}
use Rattle.rdf_reading.proofs.values.push_value.Given as goal

abbrev pub invariant-loop-c : goal.invariant-loop-c
invariant-loop-c l = (string_bytes l.out ++ encodes (value_from l.pending (drop l.c-index l.chars)) ≡ string_bytes l.fn.out ++ encodes (value_from Plain l.chars))
    × ((l.bad || bad_from l.pending (drop l.c-index l.chars)) ≡ bad_from Plain l.chars)
