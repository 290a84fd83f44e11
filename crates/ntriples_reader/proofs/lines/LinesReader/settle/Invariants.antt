use Rattle.std.proofs.Common.{◌≡◌, ◌+◌, ℕ, List, [], true, length}
use Rattle.token_scanner.specs.Widths.{width}
use Rattle.ntriples_reader.specs.Answers as spec
use Rattle.ntriples_reader.proofs.lines.LinesReader.settle.Given as goal

abbrev pub invariant-tokens : goal.invariant-tokens
invariant-tokens l = (l.self.cutter.at + width l.self.cutter.chars ≡ l.fn.self.cutter.at + width l.fn.self.cutter.chars)
    × ((more : List ℕ) → (l.whole ≡ true → more ≡ []) → spec.answer_of l.self more ≡ spec.answer_of l.fn.self more)

abbrev pub decreases-tokens : goal.decreases-tokens
decreases-tokens l = length l.self.cutter.chars
