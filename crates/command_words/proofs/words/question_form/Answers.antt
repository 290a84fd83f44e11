use Rattle.std.proofs.Common.{rules, ◌≡◌, Option, IfOk, true, subst, arith, sym, ◌∙◌}
use Rattle.std.specs.Prelude.{map, string_bytes}
use Rattle.std.proofs.lemmas.List.{length-map}
use Rattle.command_words.specs.declared.commands.Command.{Command}
use Rattle.command_words.specs.Words.{are_apart}
use Rattle.command_words.proofs.Shapes.{asked, two_items, unasked}
use Rattle.command_words.proofs.words.question_form.Goals.{in_default-via-then-words-lt2, in_default-via-else-words-lt2+else-words-lt3}
use Rattle.command_words.proofs.words.question_form.Goals as goal

pub returns-in_default : goal.returns-in_default
returns-in_default c =
    unasked c.args.base c.args.file.now c.args.a.now (map string_bytes c.args.words.now) (λ e.
    let same = length-map c.args.words.now string_bytes in
    elim c.in_default.branch [
      | in_default-via-then-words-lt2 w ↦ (let never : ⊥ = first_of (omega (arith, e, same), first_of (grind (arith, e, same), search (rules, e, same))) in never)
      | in_default-via-else-words-lt2+else-words-lt3 w ↦ (let never : ⊥ = first_of (omega (arith, e, same), first_of (grind (arith, e, same), search (rules, e, same))) in never)
    ])

pub returns : goal.returns
returns c =
    let both = two_items c.args.words.now c.code-item.result c.b-item.result c.in-len2.len_at_least c.in-len2.len_below c.code-item.is c.b-item.is in
    let apart : are_apart c.args.a.now (string_bytes c.b-item.result) ≡ true = rw c.as_str.ensures.value at (sym c.are_apart.ensures ∙ c.if-not-are_apart.false) in
    subst (λ (o : Option Command). IfOk c.explain.result (λ k. k ≡ o))
    (asked string_bytes c.args.words.now c.code-item.result c.b-item.result c.args.base c.args.file.now c.args.a.now both apart)
    (rw (c.as_str-2.ensures.value, c.as_str-3.ensures.value) at c.explain.ensures)
