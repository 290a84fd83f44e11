use Rattle.std.proofs.Common.{arith}
use Rattle.text_places.proofs.Counting.{place_begins}
use Rattle.text_places.proofs.places.Places.new.Goals as goal

pub invariant_of-result : goal.invariant_of-result
invariant_of-result c = (omega arith, place_begins c.args.bytes.now)
