use Rattle.std.proofs.Common.{◌++◌, ◌+◌, ap, ◌∙◌, drop, arith}
use Rattle.token_scanner.specs.declared.place.Place.TheVariants.{Between}
use Rattle.token_scanner.specs.Items.{items}
use Rattle.token_scanner.specs.Widths.{width}
use Rattle.token_scanner.proofs.Keeping.{behind_is}
use Rattle.token_scanner.proofs.Widths.{width_split, width_take}
use Rattle.token_scanner.proofs.cutter.Cutter.cut.Goals as goal

pub drop_front-requires-clause-room : goal.drop_front-requires-clause-room
drop_front-requires-clause-room g c = omega (arith, c.front_width-width.ensures.width, width_take c.args.n c.args.self.now.chars, c.requires.room)

pub returns-clause-items : goal.returns-clause-items
returns-clause-items g c = λ more.
    let left = c.self.view_is ∙ c.drop_front.ensures in
    ap (λ v. items g.S.Syntax.scanner Between 0 (v.chars ++ more) v.at) left
    ∙ ap (λ x. items g.S.Syntax.scanner Between 0 (drop c.args.n c.args.self.now.chars ++ more) (c.args.self.now.at + x)) c.front_width-width.ensures.width
    ∙ behind_is g.S.Syntax.scanner c.args.n c.args.self.now.chars more c.args.self.now.at c.requires.some c.requires.within

pub returns-clause-place : goal.returns-clause-place
returns-clause-place g c =
    let left = c.self.view_is ∙ c.drop_front.ensures in
    omega (arith, ap (λ v. v.at) left, ap (λ v. width v.chars) left, c.front_width-width.ensures.width, width_split c.args.n c.args.self.now.chars)
