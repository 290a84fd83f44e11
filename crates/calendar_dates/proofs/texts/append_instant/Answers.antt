use Rattle.std.proofs.Common.{◌≡◌, ◌∙◌, sym, true, FitsSigned}
use mir.Syntax.{w128}
use Rattle.std.specs.Prelude.{pos, ◌+ℤ◌, unsigned_abs}
use Rattle.std.proofs.lemmas.Int.{to_z-of_z}
use Rattle.calendar_dates.specs.Texts.{is_in_reach}
use Rattle.calendar_dates.proofs.texts.append_instant.Goals as goal

pub returns : goal.returns
returns c =
    let fits : FitsSigned w128 c.args.instant = c.ranges.instant in
    let reach : is_in_reach c.args.instant ≡ true = simp to_z-of_z at (sym c.is_in_reach.ensures.reach ∙ c.if-not-is_in_reach.false) in
    let since : c.since_start.result ≡ unsigned_abs (c.args.instant +ℤ pos 377_736_739_200_000_000_000) = simp to_z-of_z at c.since_start.ensures.value in
    rw (reach, sym since) c.append_moment.ensures
