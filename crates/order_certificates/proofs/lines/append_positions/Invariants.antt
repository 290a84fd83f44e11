use Rattle.std.proofs.Common.{◌≡◌, ◌++◌, take}
use Rattle.std.specs.List.{flat_map}
use Rattle.order_certificates.specs.OrderCertificates.{placed}
use Rattle.order_certificates.proofs.lines.append_positions.Given as goal

abbrev pub invariant-loop-position : goal.invariant-loop-position
invariant-loop-position l = l.line.items ≡ l.fn.line.items ++ flat_map placed (take l.position-index l.positions)
