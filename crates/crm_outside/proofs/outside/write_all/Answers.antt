use Rattle.std.proofs.Common.{arith, length-drop}
use Rattle.crm_outside.proofs.Pieces.{appends_more}
use Rattle.std.proofs.lemmas.List.{take_rest}
use Rattle.crm_outside.proofs.outside.write_all.Goals as goal

pub loop-from-preserved : goal.loop-from-preserved
loop-from-preserved g c = record {
  within = let some = rw take_rest at c.in_ok-from.ensures.some in omega (arith, some.0, length-drop c.loop-from.from c.args.bytes.now);
  bytes = appends_more _ _ _ _ _ _ c.loop-from.invariant.bytes c.in_ok-from.ensures.bytes;
  later = omega arith;
  sure = omega (arith, c.in_ok-from.ensures.sure);
}
