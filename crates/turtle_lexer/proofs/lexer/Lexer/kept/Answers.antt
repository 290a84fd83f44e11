use Rattle.std.proofs.Common.{arith}
use Rattle.token_scanner.proofs.Widths.{length_width}
use Rattle.turtle_lexer.proofs.lexer.Lexer.kept.Goals as goal

pub width-requires : goal.width-requires
width-requires c = omega (arith, length_width c.self.inside.cutter.chars, c.self.invariant.0.0, c.self.invariant.0.1)
