use Rattle.std.proofs.Common.{sym, ◌∙◌}
use Rattle.std.specs.Prelude.{string_bytes}
use Rattle.rdf_terms.proofs.Numbered.{list_any_map}
use Rattle.command_words.specs.Words.{is_option}
use Rattle.command_words.proofs.words.has_option.Goals as goal

pub returns : goal.returns
returns c = c.any_option.ensures ∙ sym (list_any_map is_option string_bytes c.args.words.now)
