use Rattle.std.proofs.Common.{◌-◌, ◌<◌, ◌≤◌, length}
use Rattle.std.specs.Fmt.{decimal}
use Rattle.certificate_trees.specs.Reads.{IsRead}
use Rattle.certificate_trees.proofs.words.read_digits.Given as goal

abbrev pub invariant-digits : goal.invariant-digits
invariant-digits l = record { read : IsRead l.text l.at l.to (decimal l.value); bounded : l.value ≤ l.bound; moves : l.at < l.to }

abbrev pub decreases-digits : goal.decreases-digits
decreases-digits l = length l.text - l.to
