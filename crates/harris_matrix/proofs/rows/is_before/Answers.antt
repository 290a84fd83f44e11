use Rattle.std.proofs.Common.{arith, ◌*◌, ap}
use Rattle.harris_matrix.proofs.Marking.{mark_within}
use Rattle.harris_matrix.proofs.rows.is_before.Goals as goal

pub has_bit-requires : goal.has_bit-requires
has_bit-requires c =
    omega (
      arith,
      mark_within c.args.rows.now.count c.args.i c.args.j c.requires.first c.requires.second,
      c.requires.rows.size,
      ap (λ w. c.args.i * w) c.row_width.ensures,
      c.as_slice.ensures.len,
    )
