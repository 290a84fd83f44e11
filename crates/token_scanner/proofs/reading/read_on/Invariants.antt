use Rattle.std.proofs.Common.{◌≡◌, ◌+◌, ◌≤◌, ◌++◌, List, ℕ, drop, take}
use Rattle.token_scanner.specs.Cutting.{Leads}
use Rattle.token_scanner.specs.Fronts as spec
use Rattle.token_scanner.specs.Widths.{width}
use Rattle.token_scanner.proofs.reading.read_on.Given as goal

abbrev pub invariant-loop-c : goal.invariant-loop-c
invariant-loop-c g l = (l.reading.width ≤ 65536) × (l.reading.count ≡ l.fn.from.count + l.c-index)
    × (l.reading.width + width (drop l.c-index l.chars) ≡ l.fn.from.width + width l.chars)
    × spec.IsWithin l.reading.last l.reading.count
    × ((more : List ℕ) → spec.read_from g.S.Syntax.scanner l.fn.from (l.fn.chars ++ more) ≡ spec.read_from g.S.Syntax.scanner l.reading (drop l.c-index l.chars ++ more))
    × ((done : List ℕ) → Leads g.S.Syntax.scanner l.fn.from.state done → Leads g.S.Syntax.scanner l.reading.state (done ++ take l.c-index l.chars))
