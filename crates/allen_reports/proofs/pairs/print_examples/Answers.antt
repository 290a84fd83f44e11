use Rattle.std.proofs.Common.{◌≡◌, List, ℕ, true, get_or, slice_get, length, take, sym, subst, ap, ◌∙◌, arith}
use Rattle.std.proofs.lemmas.List.{take_all}
use Rattle.std.proofs.lemmas.Option.{slice_get-get_or}
use Rattle.std.proofs.lemmas.Result.{err_from_is_err_and}
use Rattle.crm_outside.specs.Printing.{Printed, Broken, lines_from}
use Rattle.crm_outside.proofs.PrintedLines.{no_line, next_line, broken_line}
use Rattle.crm_allen.specs.declared.relations.Allen.{Allen}
use Rattle.crm_allen.specs.declared.relations.Allen.TheVariants.{Before}
use Rattle.crm_allen.specs.Names.{all_relations, is_among}
use Rattle.crm_allen.proofs.Deciding.{possible_where_among}
use Rattle.allen_reports.specs.Relations.{example_text, text_if}
use Rattle.allen_reports.proofs.Chosen.{among_lines}
use Rattle.allen_reports.proofs.pairs.print_examples.Goals as goal

pub loop-r-init : goal.loop-r-init
loop-r-init g c =
    no_line (λ _ r. text_if c.possible-relations.result (example_text c.args.analysis.now.set c.args.pair.left c.args.pair.right) r) all_relations
    g.W.Sink.written g.W.Sink.faults g.W.Sink.sure c.args.out.now

pub print_if_possible-requires-clause-possible : goal.print_if_possible-requires-clause-possible
print_if_possible-requires-clause-possible g c = λ q h.
    possible_where_among c.args.analysis.now.set c.args.pair.left c.args.pair.right c.closure.ensures.of_set c.requires.consistent c.requires.left c.requires.right q
    (subst (λ (rs : List Allen). is_among rs q ≡ true) (c.possible-relations.ensures c.args.analysis.now.set c.closure.ensures) h)

pub returns-in_err-print_if_possible : goal.returns-in_err-print_if_possible
returns-in_err-print_if_possible g c =
    let set = c.args.analysis.now.set in
    let k = c.loop-r.r-index in
    let items = c.all_relations-r-items.result in
    let here = sym (slice_get-get_or items k Before (omega (arith, ap length c.all_relations-r-items.ensures))) ∙ ap (λ (rs : List Allen). slice_get rs k) c.all_relations-r-items.ensures in
    let p = err_from_is_err_and c.from_residual.result c.from_residual.ensures.1 in
    rw (p.1, p.2) (record {
      ok = tt;
      err = subst (λ (t : List ℕ). Broken g.W.Sink.written g.W.Sink.faults g.W.Sink.sure c.args.out.now c.print_if_possible.new.out t c.in_err-print_if_possible.field-0.0)
          (among_lines c.possible-relations.result (example_text set c.args.pair.left c.args.pair.right) c.conditions.ensures
          ∙ ap (lines_from (λ (_ : ℕ) (q : Allen). example_text set c.args.pair.left c.args.pair.right q) 0) (c.possible-relations.ensures set c.closure.ensures))
          (broken_line (λ (_ : ℕ) (q : Allen). text_if c.possible-relations.result (example_text set c.args.pair.left c.args.pair.right) q) all_relations
          g.W.Sink.written g.W.Sink.faults g.W.Sink.sure k (get_or items k Before) here _ _ _ _ c.loop-r.invariant c.in_err-print_if_possible.ensures.err);
    })

pub loop-r-preserved : goal.loop-r-preserved
loop-r-preserved g c =
    let k = c.loop-r.r-index in
    let items = c.all_relations-r-items.result in
    let here = sym (slice_get-get_or items k Before (omega (arith, ap length c.all_relations-r-items.ensures))) ∙ ap (λ (rs : List Allen). slice_get rs k) c.all_relations-r-items.ensures in
    next_line (λ (_ : ℕ) (q : Allen). text_if c.possible-relations.result (example_text c.args.analysis.now.set c.args.pair.left c.args.pair.right) q) all_relations
    g.W.Sink.written g.W.Sink.faults g.W.Sink.sure k (get_or items k Before) here _ _ _ c.loop-r.invariant c.in_ok-print_if_possible.ensures.ok

pub returns : goal.returns
returns g c =
    let set = c.args.analysis.now.set in
    let whole : take c.loop-r.r-index all_relations ≡ all_relations = take_all c.loop-r.r-index all_relations (omega arith) in
    record {
      ok = subst (λ (t : List ℕ). Printed g.W.Sink.written g.W.Sink.faults g.W.Sink.sure c.args.out.now c.loop-r.out t)
          (ap (lines_from (λ (_ : ℕ) (q : Allen). text_if c.possible-relations.result (example_text set c.args.pair.left c.args.pair.right) q) 0) whole
          ∙ among_lines c.possible-relations.result (example_text set c.args.pair.left c.args.pair.right) c.conditions.ensures
          ∙ ap (lines_from (λ (_ : ℕ) (q : Allen). example_text set c.args.pair.left c.args.pair.right q) 0) (c.possible-relations.ensures set c.closure.ensures))
          c.loop-r.invariant;
      err = tt;
    }
