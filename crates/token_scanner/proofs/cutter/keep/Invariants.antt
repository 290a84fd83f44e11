use Rattle.std.proofs.Common.{◌≡◌, ◌+◌, ◌-◌, ◌≤◌, ◌++◌, take, length}
use Rattle.std.specs.Vec.{vec_len, vec_capacity}
use Rattle.token_scanner.proofs.cutter.keep.Given as goal

abbrev pub invariant-loop-byte : goal.invariant-loop-byte
invariant-loop-byte l = record {
  items : l.kept.items ≡ l.fn.kept.items ++ take l.byte-index l.bytes;
  room : vec_len l.kept + (length l.bytes - l.byte-index) ≤ vec_capacity l.kept;
}
