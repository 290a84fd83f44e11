use Rattle.std.proofs.Common.{◌≡◌, true}
use Rattle.time_primitive.specs.Machine.{is_wanted}
use Rattle.time_primitive.proofs.Reading.{Follows}
use Rattle.time_primitive.proofs.machine.read_form.Given as goal

abbrev pub invariant-loop-i : goal.invariant-loop-i
invariant-loop-i l = record {
  follows : Follows l.text l.i l.state;
  wanted : is_wanted l.datatype l.state ≡ true;
}
