use Rattle.std.proofs.Common.{◌≡◌, ◌++◌, drop, string_bytes}
use lib.Utf8.{encodes}
use Rattle.rdf_reading.specs.declared.values.Pending.TheVariants.{Plain}
use Rattle.rdf_reading.specs.Values.{value_from, bad_from}
use Rattle.rdf_reading.proofs.values.push_plain.Given as goal

abbrev pub invariant-loop-c : goal.invariant-loop-c
invariant-loop-c l = record {
  count : l.count ≡ l.c-index;
  value : string_bytes l.out ++ encodes (value_from Plain (drop l.c-index l.chars)) ≡ string_bytes l.fn.out ++ encodes (value_from Plain l.chars);
  bad : bad_from Plain (drop l.c-index l.chars) ≡ bad_from Plain l.chars;
}
