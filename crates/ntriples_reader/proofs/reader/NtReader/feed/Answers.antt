use Rattle.std.proofs.Common.{◌++◌, ◌+◌, drop, length, ap, ◌∙◌, arith}
use Rattle.std.proofs.lemmas.List.{length-drop}
use Rattle.ntriples_reader.specs.Feeding.{promised}
use Rattle.ntriples_reader.proofs.Running.{rest_is, next_bytes}
use Rattle.ntriples_reader.proofs.reader.NtReader.feed.Goals as goal

pub bytes-preserved : goal.bytes-preserved
bytes-preserved c = let t = c.bytes.taken in let n = c.in_ok-taken.field-0 in let piece = c.args.piece.now in record {
  within = omega (arith, c.bytes.invariant.within, c.in_ok-taken.ensures.within, ap length (rest_is t piece), length-drop t piece);
  fed = c.in_ok-taken.ensures.starved;
  count = omega (arith, c.bytes.invariant.count, c.in_ok-taken.ensures.count);
  answer = λ more. c.in_ok-taken.ensures.answer (drop (t + n) piece ++ more)
      ∙ ap (promised c.bytes.self) (next_bytes t n piece more) ∙ c.bytes.invariant.answer more;
}
