use Rattle.std.proofs.Common.{ap, sym, ◌∙◌, ◌≡◌, ◌+◌, ◌≤◌, ◌++◌, take, length, arith, subst}
use Rattle.token_scanner.specs.declared.front.Front.TheVariants.{Token as FrontToken}
use Rattle.token_scanner.specs.Widths.{width}
use Rattle.turtle_tokens.specs.Scanning.{front_items, items_of, behind}
use Rattle.turtle_lexer.specs.Values.{value_text, prefix_width}
use Rattle.turtle_lexer.specs.Streams.{stream}
use Rattle.turtle_lexer.specs.Streams.Stream.{Given}
use Rattle.turtle_lexer.proofs.Saying.{token_stream, same_given}
use Rattle.turtle_lexer.proofs.lexer.Lexer.token.Goals as goal

pub returns-clause-token : goal.returns-clause-token
returns-clause-token c = λ chars.
    let kind = c.args.kind in
    let n = c.args.n in
    let k = c.self.inside.cutter in
    let t = take n k.chars in
    subst (λ v. stream (front_items (FrontToken kind n) (v.kept.chars ++ chars) v.kept.at)
    ≡ Given kind c.in-Ok-from_str.text c.in-Ok.cut c.at-from.result (c.at-from.result + c.cut.result) (stream (items_of c.cut.new.self chars))) c.self.view_is
    (token_stream kind n k.chars chars k.at c.requires.some (subst (λ v. n ≤ length v.kept.chars) (sym c.self.view_is) c.requires.within)
    ∙ same_given kind (value_text kind t) c.in-Ok-from_str.text (prefix_width kind t) c.in-Ok.cut k.at c.at-from.result (k.at + width t) (c.at-from.result + c.cut.result)
    (stream (behind n (k.chars ++ chars) k.at)) (stream (items_of c.cut.new.self chars))
    (sym (c.in-Ok-from_str.ensures ∙ c.as_str.ensures.value ∙ c.in-Ok.ensures.value ∙ ap (value_text kind) c.chars.ensures))
    (sym (c.in-Ok.ensures.cut ∙ ap (prefix_width kind) c.chars.ensures))
    (sym c.at-from.ensures)
    (omega (arith, c.at-from.ensures, c.cut.ensures.width))
    (ap stream (sym (c.cut.ensures.items chars))))
