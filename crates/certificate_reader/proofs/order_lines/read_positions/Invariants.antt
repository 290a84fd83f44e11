use Rattle.std.proofs.Common.{◌-◌, length}
use Rattle.certificate_trees.specs.Reads.{IsRead}
use Rattle.certificate_reader.specs.OrderTexts.{positions_text}
use Rattle.certificate_reader.proofs.PositionReads.{SoFar}
use Rattle.certificate_reader.proofs.order_lines.read_positions.Given as goal

abbrev pub invariant-positions : goal.invariant-positions
invariant-positions l = IsRead l.text l.at l.to (positions_text l.value) × SoFar l.text l.at l.to

abbrev pub decreases-positions : goal.decreases-positions
decreases-positions l = length l.text - l.to
