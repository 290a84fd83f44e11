use Rattle.std.proofs.Common.{◌≡◌, ◌+◌, ◌*◌, ◌≤◌, drop}
use Rattle.token_scanner.specs.Widths.{width}
use Rattle.token_scanner.proofs.cutter.width_of.Given as goal

abbrev pub invariant-loop-c : goal.invariant-loop-c
invariant-loop-c l = (l.sum + width (drop l.c-index l.chars) ≡ width l.chars) × (l.sum ≤ 4 * l.c-index)
