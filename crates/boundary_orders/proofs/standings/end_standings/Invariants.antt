use Rattle.std.proofs.Common.{◌≡◌, take, ℕ}
use Rattle.std.specs.List.{flat_map}
use Rattle.boundary_orders.specs.declared.statements.Statement.{Statement}
use Rattle.boundary_orders.specs.Extents.{ends_of}
use Rattle.boundary_orders.proofs.standings.end_standings.Given as goal

abbrev pub invariant-loop-statement : goal.invariant-loop-statement
invariant-loop-statement l = l.found ≡ flat_map (λ (s : ℕ × Statement). ends_of s.1) (take l.statement-index l.statements)
