use Rattle.std.proofs.Common.{◌∙◌}
use Rattle.order_laws.specs.declared.Point.TheVariants.{Start, End}
use Rattle.crm_allen.proofs.Opening.{opened, both, all_three, turned}
use Rattle.crm_allen.proofs.openings.possible.Goals as goal

pub returns : goal.returns
returns c = λ set h.
    let ss = c.compare-start_start.ensures in
    let se = c.compare-start_end.ensures in
    let es = c.compare-end_start.ensures in
    let ee = c.compare-end_end.ensures in
    opened set.list c.args.a c.args.b _ _ _ _ _ _ _ _ _ _ _ _ _
    (es.before set h) (es.at set h)
    (c.all_three-overlaps.ensures ∙ all_three (ss.before set h) (es.after set h) (ee.before set h))
    (c.both-finished.ensures ∙ both (ss.before set h) (ee.at set h))
    (c.both-contains.ensures ∙ both (ss.before set h) (ee.after set h))
    (c.both-starts.ensures ∙ both (ss.at set h) (ee.before set h))
    (c.both-equal.ensures ∙ both (ss.at set h) (ee.at set h))
    (c.both-started.ensures ∙ both (ss.at set h) (ee.after set h))
    (c.both-during.ensures ∙ both (ss.after set h) (ee.before set h))
    (c.both-finishes.ensures ∙ both (ss.after set h) (turned set.list (End c.args.a) (End c.args.b) _ (ee.at set h)))
    (c.all_three-overlapped.ensures ∙ all_three (ss.after set h) (se.before set h) (ee.after set h))
    (turned set.list (Start c.args.a) (End c.args.b) _ (se.at set h)) (se.after set h)
