use Rattle.std.proofs.Common.{◌≡◌, ◌≤◌, ◌+◌, ◌-◌, ◌++◌, ℕ, List, drop, false, length}
use Rattle.ntriples_reader.specs.Feeding.{promised}
use Rattle.ntriples_reader.proofs.reader.NtReader.feed.Given as goal

abbrev pub invariant-bytes : goal.invariant-bytes
invariant-bytes l = record {
  within : l.taken ≤ length l.piece;
  fed : l.self.starved ≡ false;
  count : l.self.fed.count ≡ l.fn.self.fed.count + l.taken;
  answer : (more : List ℕ) → promised l.self (drop l.taken l.piece ++ more) ≡ promised l.fn.self (l.piece ++ more);
}

abbrev pub decreases-bytes : goal.decreases-bytes
decreases-bytes l = length l.piece - l.taken
