use Rattle.turtle_lexer.proofs.Texts.{tokens_right}
use Rattle.turtle_lexer.proofs.laws.bytes_have_tokens.Goals as goal

pub returns : goal.returns
returns c = tokens_right
