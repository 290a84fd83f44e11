use Rattle.std.proofs.Common.{◌≡◌, ◌<◌, ◌+◌, ◌∷◌, ◌++◌, [], drop, take, length, arith, subst, ap, sym, ◌∙◌, append_assoc}
use Rattle.std.proofs.lemmas.List.{drop_more}
use Rattle.token_scanner.specs.Fronts.{IsCut, read_from, goes}
use Rattle.token_scanner.specs.Cutting.{Leads}
use Rattle.token_scanner.specs.Widths.{width}
use Rattle.token_scanner.proofs.Lists.{take_first}
use Rattle.token_scanner.proofs.Widths.{width_split}
use Rattle.token_scanner.proofs.reading.read_on.Goals as goal

pub loop-c-preserved : goal.loop-c-preserved
loop-c-preserved g c =
    let syn = g.S.Syntax.scanner in
    let n = c.loop-c.c-index in
    let xs = c.args.chars.now in
    let i = c.loop-c.invariant in
    let b = c.in-On.ensures.bounds in
    let rest = drop (n + 1) xs in
    let next : drop n xs ≡ c.c-item.result ∷ rest = drop_more xs n c.c-item.result (let lt : n < length xs = omega (arith, c.loop-c-test.true) in lt) ∙ ap (λ x. x ∷ rest) (sym c.c-item.is) in
    let one : take (n + 1) xs ≡ take n xs ++ c.c-item.result ∷ [] = take_first n xs c.c-item.result rest next in (
      b.0,
      omega (arith, b.1, i.1),
      omega (arith, b.2, i.2, ap width next),
      b.3,
      λ more. i.4 more ∙ ap (λ x. read_from syn c.loop-c.reading (x ++ more)) next ∙ ap (λ s. goes s (λ p. read_from syn p (rest ++ more)) (λ f. f)) (sym c.in-On.ensures.step),
      λ done l. subst (Leads syn c.in-On.next.state) (append_assoc done (take n xs) (c.c-item.result ∷ []) ∙ ap (λ x. done ++ x) (sym one)) (c.in-On.ensures.leads (done ++ take n xs) (i.5 done l)),
    )

pub returns-in-Ended-clause-narrow : goal.returns-in-Ended-clause-narrow
returns-in-Ended-clause-narrow g c =
    let i = c.loop-c.invariant in
    record {
      some = c.loop-c.c-index;
      in_chars = omega (arith, c.loop-c-test.true);
      cut = subst (IsCut c.in-Ended.front) i.1 c.in-Ended.ensures.ended;
      narrow = omega (arith, i.0, i.2, width_split c.loop-c.c-index c.args.chars.now);
    }
