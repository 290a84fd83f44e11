use Rattle.std.proofs.Common.{◌≡◌, ◌++◌, ◌≤◌, ◌-◌, length, drop, take}
use Rattle.ntriples_writer.specs.Lines.{escaped}
use Rattle.ntriples_writer.proofs.lines.append_escaped.Given as goal

abbrev pub invariant-loop-i : goal.invariant-loop-i
invariant-loop-i l = (l.start ≤ l.i) × (l.i ≤ length l.text)
    × (l.out.items ++ (take (l.i - l.start) (drop l.start l.text) ++ escaped (drop l.i l.text)) ≡ l.fn.out.items ++ escaped l.text)
