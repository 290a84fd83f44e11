use Rattle.std.proofs.Common.{[], ◌∷◌, ◌++◌, ◌≡◌, ◌+◌, ◌-◌, take, drop, ap, sym, ◌∙◌, subst, arith}
use Rattle.ntriples_writer.specs.Lines.{escaped}
use Rattle.ntriples_writer.proofs.Runs.{run_kept, run_ended}
use Rattle.ntriples_writer.proofs.lines.append_escaped.Goals.{in-Some+in_ok-extend_from_slice+in_ok-push+in_ok-push-2, in_default}
use Rattle.ntriples_writer.proofs.lines.append_escaped.Goals as goal

pub loop-i-preserved : goal.loop-i-preserved
loop-i-preserved c =
    let text = c.args.text.now in
    let i = c.loop-i.i in
    let kept = c.loop-i.invariant in
    let whole = c.args.out.now.items ++ escaped text in
    elim c.match-escape_letter.branch [
      | in-Some+in_ok-extend_from_slice+in_ok-push+in_ok-push-2 w ↦
          let items : c.match-escape_letter.out.items ≡ ((c.loop-i.out.items ++ take (i - c.loop-i.start) (drop c.loop-i.start text)) ++ 0x5C ∷ []) ++ w.in-Some.letter ∷ [] =
          ap (λ v. v.items) w.out-is ∙ w.in_ok-push-2.ensures.items
          ∙ ap (λ x. x ++ w.in-Some.letter ∷ []) (w.in_ok-push.ensures.items ∙ ap (λ x. x ++ 0x5C ∷ []) w.in_ok-extend_from_slice.ensures.items) in
          let ended = run_ended text c.loop-i.out.items whole c.loop-i.start i w.in-Some.letter kept.0 c.loop-i-test.true (sym c.escape_letter.ensures ∙ w.in-Some.is) kept.2 in (
            omega (arith, w.start-is),
            omega arith,
            subst (λ s. c.match-escape_letter.out.items ++ (take (i + 1 - s) (drop s text) ++ escaped (drop (i + 1) text)) ≡ whole) (sym w.start-is)
                (subst (λ x. x ++ (take (i + 1 - (i + 1)) (drop (i + 1) text) ++ escaped (drop (i + 1) text)) ≡ whole) (sym items) ended),
          )
      | in_default w ↦
          let kept_on = run_kept text c.loop-i.out.items whole c.loop-i.start i kept.0 c.loop-i-test.true (sym c.escape_letter.ensures ∙ w.in_default.is) kept.2 in (
            omega (arith, w.start-is, kept.0),
            omega arith,
            subst (λ s. c.match-escape_letter.out.items ++ (take (i + 1 - s) (drop s text) ++ escaped (drop (i + 1) text)) ≡ whole) (sym w.start-is)
                (subst (λ x. x.items ++ (take (i + 1 - c.loop-i.start) (drop c.loop-i.start text) ++ escaped (drop (i + 1) text)) ≡ whole) (sym w.out-is) kept_on),
          )
    ]
