use Rattle.std.proofs.Common.{List, ℕ, subst, ap, ◌∙◌}
use Rattle.std.proofs.lemmas.Result.{err_from_is_err_and}
use Rattle.order_laws.specs.declared.Position.{Position}
use Rattle.order_texts.specs.Texts.{placing_line}
use Rattle.crm_outside.specs.Printing.{Prints}
use Rattle.crm_outside.proofs.PrintedTexts.{broken_front, prints_then}
use Rattle.order_core.specs.Sets.{Orders}
use Rattle.crm_allen.specs.Names.{relation_name}
use Rattle.crm_allen.specs.Relations.{example_placing}
use Rattle.allen_reports.proofs.pairs.print_example.Goals as goal

pub returns-in_err-print_name : goal.returns-in_err-print_name
returns-in_err-print_name g c =
    let p = err_from_is_err_and c.from_residual.result c.from_residual.ensures.1 in
    rw (p.1, p.2) (record { ok = tt; err = broken_front g.W.Sink.written g.W.Sink.faults g.W.Sink.sure _ _ _ _ _ c.in_err-print_name.ensures.err })

pub returns : goal.returns
returns g c =
    prints_then g.W.Sink.written g.W.Sink.faults g.W.Sink.sure _ _ _ _ _ _ c.in_ok-print_name.ensures.ok
    (subst (λ (p : List Position). Prints g.W.Sink.written g.W.Sink.faults g.W.Sink.sure c.print_name.new.out c.print_placing.new.out (placing_line (relation_name c.args.r) p) c.print_placing.result)
    (c.in-Ok.ensures ∙ ap (λ (s : Orders). example_placing s c.args.pair.left c.args.pair.right c.args.r) c.set.ensures)
    (subst (λ (n : List ℕ). Prints g.W.Sink.written g.W.Sink.faults g.W.Sink.sure c.print_name.new.out c.print_placing.new.out (placing_line n c.in-Ok.placing) c.print_placing.result)
    (c.as_bytes.ensures.value ∙ c.name.ensures) c.print_placing.ensures))
