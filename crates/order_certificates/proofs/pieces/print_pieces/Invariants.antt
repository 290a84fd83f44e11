use Rattle.order_certificates.proofs.Making.{HasPrinted}
use Rattle.order_certificates.proofs.pieces.print_pieces.Given as goal

abbrev pub invariant-loop-turn : goal.invariant-loop-turn
invariant-loop-turn g l =
    g.P.Pieces.IsSound l.pieces
    × HasPrinted g.W.Sink.written g.W.Sink.faults g.W.Sink.sure l.fn.out l.out (g.P.Pieces.rest l.pieces) (g.P.Pieces.rest l.fn.pieces)
