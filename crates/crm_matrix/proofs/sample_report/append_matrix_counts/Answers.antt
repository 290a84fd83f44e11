use Rattle.std.proofs.Common.{ℕ, List, ◌++◌}
use Rattle.std.specs.Prelude.{codes}
use Rattle.order_texts.specs.Texts.{count_line}
use Rattle.crm_matrix.specs.Samples.{cell_counts, matrix_counts}
use Rattle.crm_matrix.proofs.Appended.{appended_then}
use Rattle.crm_matrix.proofs.sample_report.append_matrix_counts.Goals as goal

pub returns : goal.returns
unfolding matrix_counts
returns c =
    let s : List ℕ = c.args.text.now.items in
    let t : List ℕ = c.extend_from_slice.new.self.items in
    let u : List ℕ = c.append_count.new.line.items in
    let v : List ℕ = c.append_cell_counts.new.text.items in
    let relations : List ℕ = count_line (codes "relations") c.args.relations in
    let cells : List ℕ = cell_counts c.args.matrix.now in
    appended_then s t v (codes "consistent\n") (relations ++ cells) c.in_ok-extend_from_slice.ensures.items
    (appended_then t u v relations cells c.in_ok-append_count.ensures c.in_ok-append_cell_counts.ensures)
