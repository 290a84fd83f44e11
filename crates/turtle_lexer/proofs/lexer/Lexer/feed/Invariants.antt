use Rattle.std.proofs.Common.{◌≡◌, ◌+◌, ◌++◌, ℕ, List, drop, take, false}
use Rattle.turtle_lexer.specs.Lexing.{ahead, IsFed}
use Rattle.turtle_lexer.proofs.lexer.Lexer.feed.Given as goal

abbrev pub invariant-loop-byte : goal.invariant-loop-byte
invariant-loop-byte l = (l.self.starved ≡ false) × (l.self.finished ≡ false) × (l.self.refusal ≡ l.fn.self.refusal) × (l.self.fed.count ≡ l.fn.self.fed.count + l.byte-index)
    × ((more : List ℕ) → ahead l.self (drop l.byte-index l.piece ++ more) ≡ ahead l.fn.self (l.piece ++ more))
    × ((bytes : List ℕ) → IsFed l.fn.self bytes → IsFed l.self (bytes ++ take l.byte-index l.piece))
