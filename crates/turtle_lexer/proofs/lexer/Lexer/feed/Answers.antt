use Rattle.std.proofs.Common.{◌≡◌, ◌+◌, ◌∷◌, ◌++◌, drop, take, get_or, arith, ap, sym, ◌∙◌}
use Rattle.std.proofs.lemmas.List.{drop_more}
use Rattle.turtle_lexer.specs.Lexing.{ahead}
use Rattle.turtle_lexer.proofs.Feeding.{byte_fed}
use Rattle.turtle_lexer.proofs.lexer.Lexer.feed.Goals as goal

pub loop-byte-preserved : goal.loop-byte-preserved
loop-byte-preserved c =
    let taken = c.in_ok-take.ensures in
    let before = c.loop-byte.invariant in
    let i = c.loop-byte.byte-index in
    let xs = c.args.piece.now in
    let next : drop i xs ≡ get_or xs i 0 ∷ drop (i + 1) xs = drop_more xs i 0 c.loop-byte-test.true in (
      taken.starved,
      taken.finished,
      taken.refusal ∙ before.2,
      omega (arith, taken.count, before.3),
      λ more. taken.ahead (drop (i + 1) xs ++ more) ∙ ap (λ x. ahead c.loop-byte.self (x ++ more)) (sym next) ∙ before.4 more,
      λ bytes fed. byte_fed c.take.new.self bytes xs i (get_or xs i 0) next (taken.bytes (bytes ++ take i xs) (before.5 bytes fed)),
    )
