use Rattle.std.proofs.Common.{◌-◌, ◌+◌, ◌≤◌, length, take}
use Rattle.std.specs.Io.KnownBytes.{Appends}
use Rattle.gathered_sink.proofs.pieces.write_out.Given as goal

abbrev pub invariant-loop-written : goal.invariant-loop-written
invariant-loop-written g l = record {
  within : l.written ≤ length l.bytes;
  so_far : Appends (g.W.Sink.written l.initial.out) (g.W.Sink.written l.out) (take l.written l.bytes);
  later : g.W.Sink.faults l.initial.out ≤ g.W.Sink.faults l.out;
  spent : g.W.Sink.sure l.initial.out ≤ g.W.Sink.sure l.out + l.written;
}

abbrev pub decreases-loop-written : goal.decreases-loop-written
decreases-loop-written g l = length l.bytes - l.written
