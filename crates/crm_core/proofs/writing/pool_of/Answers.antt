use Rattle.std.proofs.Common.{◌≡◌, IfOk, length, subst}
use Rattle.rdf_terms.specs.declared.triples.Records.{Records}
use Rattle.triple_pool.specs.Pool.{number_from}
use Rattle.crm_core.proofs.writing.pool_of.Goals as goal

pub returns : goal.returns
returns c =
    subst (λ (r : Records). IfOk c.build.result (λ p. p ≡ record { pairs = number_from 0 r.triples; used = length r.triples })) c.records.ensures c.build.ensures
