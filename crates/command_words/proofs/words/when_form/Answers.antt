use Rattle.std.proofs.Common.{rules, arith}
use Rattle.std.specs.Prelude.{map, string_bytes}
use Rattle.std.proofs.lemmas.List.{length-map}
use Rattle.command_words.proofs.Shapes.{no_instant}
use Rattle.command_words.proofs.words.when_form.Goals.{in_default-via-then-words-lt2, in_default-via-else-words-lt2+else-words-lt3}
use Rattle.command_words.proofs.words.when_form.Goals as goal

pub returns-in_default : goal.returns-in_default
returns-in_default c =
    no_instant c.args.base (map string_bytes c.args.words.now) (λ e.
    let same = length-map c.args.words.now string_bytes in
    elim c.in_default.branch [
      | in_default-via-then-words-lt2 w ↦ (let never : ⊥ = first_of (omega (arith, e, same), first_of (grind (arith, e, same), search (rules, e, same))) in never)
      | in_default-via-else-words-lt2+else-words-lt3 w ↦ (let never : ⊥ = first_of (omega (arith, e, same), first_of (grind (arith, e, same), search (rules, e, same))) in never)
    ])
