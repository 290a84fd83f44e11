use Rattle.std.proofs.Common.{refl}
use Rattle.certificate_trees.proofs.Pieces.{byte_read}
use Rattle.certificate_trees.proofs.WordReads.{byte_whole, byte_stopped}
use Rattle.certificate_trees.proofs.trees.read_open.Goals as goal

pub returns-then-not-stands_at-clause-refused : goal.returns-then-not-stands_at-clause-refused
returns-then-not-stands_at-clause-refused c = byte_stopped c.args.text.now c.args.at 40 c.requires (λ e. absurd (cc (c.stands_at.ensures.stands.1 e, c.if-not-stands_at.true)))

pub returns-then-depth-eq0-clause-refused : goal.returns-then-depth-eq0-clause-refused
returns-then-depth-eq0-clause-refused c = (refl, (c.if-depth-eq0.true, c.stands_at.ensures.stands.0 (cc)))

pub returns-clause-read : goal.returns-clause-read
returns-clause-read c = byte_read c.args.text.now c.args.at 40 (c.stands_at.ensures.stands.0 (cc))

pub returns-clause-whole : goal.returns-clause-whole
returns-clause-whole c = byte_whole c.args.text.now c.args.at 40 (c.stands_at.ensures.stands.0 (cc))
