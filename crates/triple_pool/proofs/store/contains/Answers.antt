use Rattle.std.proofs.Common.{sym, ◌∙◌}
use Rattle.triple_pool.specs.Tables.{number_in}
use Rattle.triple_pool.proofs.Tabling.{missing, found_held}
use Rattle.triple_pool.proofs.store.contains.Goals as goal

pub returns-in-Some : goal.returns-in-Some
returns-in-Some c =
    c.is_held_at.ensures.held
    ∙ found_held c.args.triple c.args.slots.now (number_in c.args.numbers.now) c.in-Some.number c.requires (sym c.number_of.ensures ∙ c.in-Some.is)

pub returns-in-None : goal.returns-in-None
returns-in-None c = sym (missing c.args.triple c.args.slots.now (number_in c.args.numbers.now) c.requires (sym c.number_of.ensures ∙ c.in-None.is))
