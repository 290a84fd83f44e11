use Rattle.std.proofs.Common.{◌≡◌, ◌<◌, ◌^◌, drop}
use Rattle.rdf_chars.specs.Escapes.{hexadecimal}
use Rattle.rdf_chars.proofs.escapes.number.Given as goal

abbrev pub invariant-loop-c : goal.invariant-loop-c
invariant-loop-c l = (hexadecimal 0 l.digits ≡ hexadecimal l.value (drop l.c-index l.digits)) × (l.value < 16 ^ l.c-index)
