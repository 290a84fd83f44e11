use Rattle.std.proofs.Common.{◌≡◌, ◌++◌, take}
use Rattle.std.specs.List.{flat_map}
use Rattle.crm_allen.specs.Names.{all_relations}
use Rattle.allen_reports.specs.Relations.{name_text, text_if}
use Rattle.allen_reports.proofs.lines.append_names.Given as goal

abbrev pub invariant-loop-r : goal.invariant-loop-r
invariant-loop-r l = l.line.items ≡ l.fn.line.items ++ flat_map (text_if l.set name_text) (take l.r-index all_relations)
