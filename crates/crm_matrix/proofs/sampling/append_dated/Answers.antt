use Rattle.std.proofs.Common.{ℕ, ◌+◌, List, ◌++◌}
use Rattle.std.specs.Prelude.{codes}
use Rattle.crm_matrix.specs.Samples.{span_line, year_line}
use Rattle.crm_matrix.proofs.Appended.{appended_then}
use Rattle.crm_matrix.proofs.sampling.append_dated.Goals as goal

pub returns : goal.returns
returns c =
    let begin : List ℕ = year_line c.args.i (codes "P82a_begin_of_the_begin") (c.args.i + 1000) in
    let end : List ℕ = year_line c.args.i (codes "P82b_end_of_the_end") (c.args.i + 1030) in
    appended_then c.args.text.now.items c.append_span.new.text.items c.append_year-2.new.text.items (span_line c.args.i) (begin ++ end) c.in_ok-append_span.ensures
    (appended_then c.append_span.new.text.items c.append_year.new.text.items c.append_year-2.new.text.items begin end c.in_ok-append_year.ensures c.in_ok-append_year-2.ensures)
