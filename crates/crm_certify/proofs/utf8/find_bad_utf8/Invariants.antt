use Rattle.std.proofs.Common.{◌≡◌, take}
use Rattle.rdf_chars.specs.Steps.{Stands}
use Rattle.crm_certify.proofs.utf8.find_bad_utf8.Given as goal

abbrev pub invariant-loop-byte : goal.invariant-loop-byte
invariant-loop-byte l = Stands l.steps (take l.byte-index l.text) × (l.steps.count ≡ l.byte-index)
