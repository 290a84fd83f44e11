use Rattle.text_places.proofs.Counting.{place_begins}
use Rattle.text_places.proofs.places.walk_to.Goals as goal

pub walk-requires-else-at-to-clause-here : goal.walk-requires-else-at-to-clause-here
walk-requires-else-at-to-clause-here c = place_begins c.args.bytes.now
