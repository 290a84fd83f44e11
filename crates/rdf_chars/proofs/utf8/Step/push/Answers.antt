use Rattle.std.proofs.Common.{subst, sym}
use Rattle.rdf_chars.specs.Steps.{IsPushed, IsSmallPushed}
use Rattle.rdf_chars.proofs.Standing.{right_of}
use Rattle.rdf_chars.proofs.utf8.Step.push.Goals as goal

pub returns-clause-right : goal.returns-clause-right
returns-clause-right c = subst IsPushed (sym c.led_by.ensures.pushed)
    (right_of c.args.self c.args.byte c.requires (subst IsSmallPushed c.led_by.ensures.pushed c.led_by.ensures.small))
