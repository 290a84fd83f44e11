use Rattle.std.proofs.Common.{arith, length-drop}
use Rattle.crm_outside.proofs.Pieces.{appends_more}
use Rattle.std.proofs.lemmas.List.{take_rest}
use Rattle.gathered_sink.proofs.pieces.write_out.Goals as goal

pub loop-written-preserved : goal.loop-written-preserved
loop-written-preserved g c = record {
  within = let some = rw take_rest at c.in-Ok.ensures.some in omega (arith, some.0, length-drop c.loop-written.written c.args.bytes.now);
  so_far = appends_more _ _ _ _ _ _ c.loop-written.invariant.so_far c.in-Ok.ensures.bytes;
  later = omega arith;
  spent = omega (arith, c.in-Ok.ensures.sure);
}
