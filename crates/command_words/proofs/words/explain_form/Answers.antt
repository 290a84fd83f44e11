use Rattle.std.proofs.Common.{arith}
use Rattle.std.specs.Prelude.{map, string_bytes}
use Rattle.std.proofs.lemmas.List.{length-map}
use Rattle.command_words.proofs.Shapes.{no_question}
use Rattle.command_words.proofs.words.explain_form.Goals as goal

pub returns-in_default : goal.returns-in_default
returns-in_default c =
    no_question c.args.base (map string_bytes c.args.words.now) (omega (arith, length-map c.args.words.now string_bytes, c.in_default.len_below))
