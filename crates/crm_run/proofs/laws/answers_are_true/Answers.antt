use Rattle.crm_run.proofs.Truths.{true_answer}
use Rattle.crm_run.proofs.laws.answers_are_true.Goals as goal

pub returns : goal.returns
returns c = λ set a p b front conditions in_a in_b.
    true_answer c.reports_are_consistent_where_some_placing_satisfies.ensures c.listed_primitives_always_hold.ensures c.listed_relations_have_their_chains.ensures
    c.answers_hold_where_every_placing_does.ensures.holds c.answers_hold_where_every_placing_does.ensures.satisfied c.answers_hold_where_every_placing_does.ensures.broken
    set conditions a p b front in_a in_b
