use Rattle.order_certificates.proofs.Tables.{fresh_kept}
use Rattle.order_certificates.proofs.shared_routes.build_shared.Goals as goal

pub returns : goal.returns
returns c = λ lets. record {
  routes = c.in_ok-routes.ensures;
  parts = fresh_kept c.in_ok-routes.routes.nodes lets c.in_ok-parts.parts.items c.node_count.result c.in_ok-parts.ensures c.node_count.ensures;
}
