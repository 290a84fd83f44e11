use Rattle.std.proofs.Common.{◌≡◌}
use Rattle.text_places.specs.Places.{place_at}
use Rattle.text_places.proofs.places.walk.Given as goal

abbrev pub invariant-loop-k : goal.invariant-loop-k
invariant-loop-k l = l.place ≡ place_at l.bytes l.k
