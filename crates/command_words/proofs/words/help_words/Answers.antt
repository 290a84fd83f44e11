use Rattle.std.proofs.Common.{◌∙◌}
use Rattle.std.specs.Prelude.{string_bytes}
use Rattle.command_words.proofs.Shapes.{helped}
use Rattle.command_words.proofs.words.help_words.Goals as goal

pub returns-in-len1 : goal.returns-in-len1
returns-in-len1 c =
    (rw c.as_str.ensures.value at c.help_on.ensures) ∙ helped string_bytes c.args.words.now c.word-item.result c.in-len1.len_at_least c.in-len1.len_below c.word-item.is
