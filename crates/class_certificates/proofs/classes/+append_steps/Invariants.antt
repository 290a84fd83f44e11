use Rattle.std.proofs.Common.{length}
use Rattle.class_certificates.proofs.classes.+append_steps.Given as goal

abbrev pub decreases-append_steps : goal.decreases-append_steps
decreases-append_steps l = length l.way.now
