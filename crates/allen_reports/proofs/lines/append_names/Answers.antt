use Rattle.std.proofs.Common.{◌≡◌, List, ℕ, ◌++◌, take, ap, arith, ◌∙◌}
use Rattle.std.specs.List.{flat_map}
use Rattle.std.proofs.lemmas.List.{take_all}
use Rattle.crm_allen.specs.declared.relations.Allen.{Allen}
use Rattle.crm_allen.specs.Names.{all_relations}
use Rattle.allen_reports.specs.Relations.{name_text, text_if}
use Rattle.allen_reports.proofs.Chosen.{among_joined}
use Rattle.allen_reports.proofs.lines.append_names.Goals as goal

pub returns : goal.returns
returns c =
    let whole : take c.loop-r.r-index all_relations ≡ all_relations = take_all c.loop-r.r-index all_relations (omega arith) in
    c.loop-r.invariant
    ∙ ap (λ (rs : List Allen). c.args.line.now.items ++ flat_map (text_if c.args.set.now name_text) rs) whole
    ∙ ap (λ (t : List ℕ). c.args.line.now.items ++ t) (among_joined c.args.set.now name_text c.conditions.ensures)
