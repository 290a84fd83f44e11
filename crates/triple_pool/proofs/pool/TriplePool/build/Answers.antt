use Rattle.std.proofs.Common.{sym, ◌∙◌}
use Rattle.triple_pool.proofs.Building.{build_new, build_next}
use Rattle.triple_pool.proofs.pool.TriplePool.build.Goals as goal

pub append-requires-clause-new : goal.append-requires-clause-new
append-requires-clause-new c =
    build_new c.args.triples.now c.loop-i.i c.in-Some.triple c.loop-i.pool c.len-count.ensures.distinct (sym c.get.ensures ∙ c.in-Some.is) c.loop-i.invariant

pub loop-i-preserved : goal.loop-i-preserved
loop-i-preserved c =
    build_next c.args.triples.now c.loop-i.i c.in-Some.triple c.loop-i.pool c.append.new.self (sym c.get.ensures ∙ c.in-Some.is) c.loop-i.invariant c.in_ok-append.ensures.ok
