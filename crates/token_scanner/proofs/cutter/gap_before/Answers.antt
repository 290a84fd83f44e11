use Rattle.std.proofs.Common.{◌≡◌, ◌<◌, ◌+◌, ◌∷◌, ◌++◌, drop, length, arith, ap, sym, ◌∙◌}
use Rattle.std.proofs.lemmas.List.{drop_more}
use Rattle.token_scanner.specs.Gaps.{gap_at}
use Rattle.token_scanner.specs.Items.{items}
use Rattle.token_scanner.specs.Widths.{width}
use Rattle.token_scanner.proofs.Keeping.{skip_one}
use Rattle.token_scanner.proofs.cutter.gap_before.Goals as goal

pub loop-c-preserved : goal.loop-c-preserved
loop-c-preserved g c =
    let i = c.loop-c.c-index in
    let xs = c.args.chars.now in
    let w = c.loop-c.skipped.width in
    let next : drop i xs ≡ c.c-item.result ∷ drop (i + 1) xs = drop_more xs i c.c-item.result (let lt : i < length xs = omega (arith, c.loop-c-test.true) in lt) ∙ ap (λ x. x ∷ drop (i + 1) xs) (sym c.c-item.is) in (
      omega (arith, c.loop-c.invariant.0),
      omega (arith, c.loop-c.invariant.1, ap width next, c.len_utf8.ensures.value),
      λ more at.
          skip_one g.S.Syntax.scanner c.loop-c.skipped.place c.in-Skip.place c.c-item.result (drop (i + 1) xs ++ more) at w c.len_utf8.result (ap (λ b. gap_at b c.loop-c.skipped.place c.c-item.result) (sym c.has_lines.ensures) ∙ sym c.gap_at.ensures ∙ c.in-Skip.is) c.len_utf8.ensures.value
          ∙ ap (λ x. items g.S.Syntax.scanner c.loop-c.skipped.place 0 (x ++ more) (at + w)) (sym next)
          ∙ c.loop-c.invariant.2 more at,
    )
