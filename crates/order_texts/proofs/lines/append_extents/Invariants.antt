use Rattle.std.proofs.Common.{◌≡◌, ◌++◌}
use Rattle.order_texts.specs.Texts.{extent_texts}
use Rattle.order_texts.proofs.lines.append_extents.Given as goal

abbrev pub invariant-loop-k : goal.invariant-loop-k
invariant-loop-k l = l.line.items ≡ l.fn.line.items ++ extent_texts l.positions l.k
