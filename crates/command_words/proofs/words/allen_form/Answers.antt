use Rattle.std.proofs.Common.{◌≡◌, Option, IfOk, subst, arith}
use Rattle.std.specs.Prelude.{map, string_bytes}
use Rattle.std.proofs.lemmas.List.{length-map}
use Rattle.command_words.specs.declared.commands.Command.{Command}
use Rattle.command_words.proofs.Shapes.{no_pair}
use Rattle.command_words.proofs.words.allen_form.Goals as goal

pub returns-in_default : goal.returns-in_default
returns-in_default c =
    subst (λ (o : Option Command). IfOk c.file_form.result (λ k. k ≡ o))
    (no_pair c.args.base (map string_bytes c.args.words.now) (omega (arith, length-map c.args.words.now string_bytes, c.in_default.len_below))) c.file_form.ensures
