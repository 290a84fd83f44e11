use Rattle.std.proofs.Common.{◌≡◌, ◌+◌, length}
use Rattle.order_certificates.proofs.pieces.count_pieces.Given as goal

abbrev pub invariant-loop-turn : goal.invariant-loop-turn
invariant-loop-turn g l = g.P.Pieces.IsSound l.pieces × (l.count + length (g.P.Pieces.rest l.pieces) ≡ length (g.P.Pieces.rest l.fn.pieces))
