use Rattle.std.proofs.Common.{length}
use Rattle.order_certificates.proofs.balanced.+append_balanced.Given as goal

abbrev pub decreases-append_balanced : goal.decreases-append_balanced
decreases-append_balanced l = length l.leaves.now
