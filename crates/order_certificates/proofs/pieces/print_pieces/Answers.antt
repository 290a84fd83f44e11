use Rattle.std.proofs.Common.{◌≡◌, List, ℕ, [], ◌++◌, ap, ◌∙◌}
use Rattle.std.proofs.lemmas.Result.{err_from_is_err_and}
use Rattle.order_certificates.proofs.Making.{next_printed, broke_printed, starved_printed}
use Rattle.order_certificates.proofs.pieces.print_pieces.Goals as goal

pub returns-in_default : goal.returns-in_default
returns-in_default g c = record { ok = tt; err = starved_printed g.W.Sink.written g.W.Sink.faults g.W.Sink.sure _ _ _ _ c.loop-turn.invariant.1 }

pub returns-in_err-print_text : goal.returns-in_err-print_text
returns-in_err-print_text g c =
    let p = err_from_is_err_and c.from_residual.result c.from_residual.ensures.1 in
    let whole = ap (λ (u : List ℕ). u ++ g.P.Pieces.rest c.append_next.new.self) c.as_slice.ensures.value ∙ c.in-Ok.ensures.text
    ∙ ap (λ (u : List ℕ). u ++ g.P.Pieces.rest c.loop-turn.pieces) c.clear.ensures.items in
    rw (p.1, p.2) (record {
      ok = tt;
      err = broke_printed g.W.Sink.written g.W.Sink.faults g.W.Sink.sure _ _ _ c.as_slice.result.now _ _ _ _ c.loop-turn.invariant.1 c.in_err-print_text.ensures.prints.err whole;
    })

pub loop-turn-preserved : goal.loop-turn-preserved
loop-turn-preserved g c =
    let whole = ap (λ (u : List ℕ). u ++ g.P.Pieces.rest c.append_next.new.self) c.as_slice.ensures.value ∙ c.in-Ok.ensures.text
    ∙ ap (λ (u : List ℕ). u ++ g.P.Pieces.rest c.loop-turn.pieces) c.clear.ensures.items in
    (c.in-Ok.ensures.sound, next_printed g.W.Sink.written g.W.Sink.faults g.W.Sink.sure _ _ _ c.as_slice.result.now _ _ _ c.loop-turn.invariant.1 c.in_ok-print_text.ensures.prints.ok whole)

pub returns : goal.returns
returns g c = record { ok = tt; err = starved_printed g.W.Sink.written g.W.Sink.faults g.W.Sink.sure _ _ _ _ c.loop-turn.invariant.1 }
