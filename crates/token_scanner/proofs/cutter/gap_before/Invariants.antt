use Rattle.std.proofs.Common.{◌≡◌, ◌+◌, ◌++◌, List, ℕ, drop}
use Rattle.token_scanner.specs.Items as spec
use Rattle.token_scanner.specs.Widths.{width}
use Rattle.token_scanner.proofs.cutter.gap_before.Given as goal

abbrev pub invariant-loop-c : goal.invariant-loop-c
invariant-loop-c g l = (l.skipped.count ≡ l.c-index) × (l.skipped.width + width (drop l.c-index l.chars) ≡ width l.chars)
    × ((more : List ℕ) (at : ℕ) → spec.items g.S.Syntax.scanner l.skipped.place 0 (drop l.c-index l.chars ++ more) (at + l.skipped.width) ≡ spec.items g.S.Syntax.scanner l.fn.place 0 (l.chars ++ more) at)
