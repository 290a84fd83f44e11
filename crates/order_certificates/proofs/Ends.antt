-- The chain of what follows on a side, by the node at which it ends.
use Rattle.std.proofs.Common.{◌≡◌, refl, ℕ, zero, suc, Bool, Option, List, [], sym, ap, subst, ◌∙◌}
use Rattle.std.specs.Prelude.{unwrap_or}
use Rattle.order_laws.specs.declared.Order.{Order}
use Rattle.order_laws.specs.declared.Point.{Point}
use Rattle.order_laws.specs.ChainSearch.{first_chain}
use Rattle.order_laws.specs.Closure.{reach_between}
use Rattle.order_laws.specs.Tables.{is_strict}
use Rattle.chain_certificate.specs.declared.tree.Node.{Node}
use Rattle.chain_certificate.specs.Tree.{chain_of}
use Rattle.chain_certificate.specs.Ends.{chain_at}
use Rattle.order_analysis.specs.Reasons.{reason_of}
use Rattle.order_core.specs.Sets.{Orders}
use Rattle.order_core.specs.declared.sides.Side.{Side}
use Rattle.order_certificates.specs.declared.shared_routes.SharedRoutes.{SharedRoutes}
use Rattle.order_certificates.specs.Sharing.{LetSteps}
use Rattle.order_certificates.specs.OrderCertificates.{side_lets}
use Rattle.order_certificates.specs.Keeping.{IsSharing}
use Rattle.order_certificates.proofs.Tables.{kept_side}

at_end : (nodes : List Node) (node : ℕ) → unwrap_or (chain_at nodes node) [] ≡ chain_of nodes node
at_end nodes zero = refl
at_end nodes (suc n) = refl

pub side_found : (orders : List Order) (x y target : Point) (strict : Bool) (nodes : List Node) (node : ℕ) →
    first_chain orders x target strict ≡ chain_at nodes node → target ≡ y → strict ≡ is_strict (reach_between orders x y) →
    reason_of orders x y ≡ chain_of nodes node
side_found orders x y target strict nodes node e et es =
    ap (λ (b : Bool). unwrap_or (first_chain orders x y b) []) (sym es)
    ∙ ap (λ (t : Point). unwrap_or (first_chain orders x t strict) []) (sym et)
    ∙ ap (λ (o : Option (List ℕ)). unwrap_or o []) e ∙ at_end nodes node

-- the lines of another side take nothing away
pub sharing_on : (set : Orders) (source : Point) (lets next : LetSteps) (r : SharedRoutes) (a b : ℕ) (side : Side) → IsSharing set source lets r
    → next ≡ side_lets set lets a b side → IsSharing set source next r
sharing_on set source lets next r a b side h e =
    let P : LetSteps → Type 0 = λ l. IsSharing set source l r in
    subst P (sym e) (record {
      routes = h.routes;
      parts = kept_side r.routes.nodes r.parts.items set lets a b side h.parts;
    })
