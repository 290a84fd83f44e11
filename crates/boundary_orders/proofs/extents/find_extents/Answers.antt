use Rattle.std.proofs.Common.{ℕ, ◌++◌, Bool, Option, List, ap, ◌∙◌}
use Rattle.std.proofs.Math.Path.{fun_ext}
use Rattle.std.specs.List.{flat_map}
use Rattle.rdf_terms.specs.declared.terms.Term.{Term}
use Rattle.boundary_orders.specs.declared.statements.Statement.{Statement}
use Rattle.boundary_orders.specs.Extents.{ends_of, by_type, kind_of, rows_by, ends_in}
use Rattle.boundary_orders.proofs.extents.find_extents.Goals as goal

pub returns : goal.returns
returns c = λ faults known stated.
    c.in_ok-table.ensures
    ∙ ap (λ (kind : Term → Option Bool). rows_by kind (ends_in c.args.pool.now.pairs))
    (fun_ext c.in_ok-marks.ensures
    ∙ ap kind_of (c.in_ok-class_standings.ensures faults known
    ∙ ap (λ (l : List (Term × Bool)). l ++ flat_map (by_type c.args.names.now faults) c.args.pool.now.pairs)
    (c.in_ok-standings.ensures ∙ ap (flat_map (λ (s : ℕ × Statement). ends_of s.1)) stated)))
