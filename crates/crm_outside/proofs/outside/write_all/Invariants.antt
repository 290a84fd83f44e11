use Rattle.std.proofs.Common.{length, ◌-◌, ◌+◌, ◌≤◌, take}
use Rattle.std.specs.Io.KnownBytes.{Appends}
use Rattle.crm_outside.proofs.outside.write_all.Given as goal

abbrev pub invariant-loop-from : goal.invariant-loop-from
invariant-loop-from g l = record {
  within : l.from ≤ length l.bytes;
  bytes : Appends (g.W.Sink.written l.fn.out) (g.W.Sink.written l.out) (take l.from l.bytes);
  later : g.W.Sink.faults l.fn.out ≤ g.W.Sink.faults l.out;
  sure : g.W.Sink.sure l.fn.out ≤ g.W.Sink.sure l.out + l.from;
}

abbrev pub decreases-loop-from : goal.decreases-loop-from
decreases-loop-from g l = length l.bytes - l.from
