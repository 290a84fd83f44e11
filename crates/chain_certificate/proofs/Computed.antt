-- The chains that are found are the computed ones.
use Rattle.std.proofs.Common.{◌≡◌, ◌<◌, ℕ, zero, suc, List, Bool, true, inl, inr, arith, refl, sym, subst, ap, ◌∙◌, get_or, ◌+◌, ◌*◌}
use Rattle.std.specs.Prelude.{Option, Some, None, IsSome}
use Rattle.std.proofs.lemmas.Bool.{true≢false}
use Rattle.order_laws.specs.declared.Order.{Order}
use Rattle.order_laws.specs.declared.Point.{Point}
use Rattle.order_laws.specs.Chains.{IsChain, shows_strict}
use Rattle.order_laws.specs.ChainSearch.{first_chain}
use Rattle.order_laws.specs.FirstChains.{IsFirstChain}
use Rattle.order_laws.specs.Points.{number_of}
use Rattle.order_laws.specs.Tables.{IsPoint}
use Rattle.order_laws.proofs.ChainSearch.{cases_option, chain_there, found_first, first_found}
use Rattle.order_core.specs.Sets.{Orders}
use Rattle.chain_certificate.specs.declared.tree.Node.{Node}
use Rattle.chain_certificate.specs.Routes.{Routing, IsRoutesOf, IsPicked}
use Rattle.chain_certificate.specs.Tree.{chain_of}
use Rattle.chain_certificate.specs.Ends.{chain_at}
use Rattle.chain_certificate.proofs.Picked.{chain_is, chain_none}

pub some_computed : (orders : List Order) (x y : Point) (strict : Bool) (ns : List ℕ) → IsFirstChain orders x y strict ns →
    Some ns ≡ first_chain orders x y strict
some_computed orders x y strict ns first = sym (first_found orders x y strict ns first)

pub none_computed : (orders : List Order) (x y : Point) (strict : Bool) →
    ((ns : List ℕ) → IsChain orders x y ns → (strict ≡ true → shows_strict orders ns ≡ true) → ⊥) →
    None ≡ first_chain orders x y strict
none_computed orders x y strict none =
    elim (cases_option (first_chain orders x y strict)) [
      | inl e ↦ sym e
      | inr found ↦ (let first : IsFirstChain orders x y strict found.0 = found_first orders x y strict found.0 found.1 in
          absurd (none found.0 first.chain first.shows))
    ]

-- the first chain ends at the node that is picked
pub end_computed : (set : Orders) (source : Point) (routes : Routing) → IsRoutesOf set source routes → (target : Point) (strict : Bool) (node : ℕ) →
    IsPoint routes.extents routes.dates target →
    IsPicked (get_or routes.node_of (2 * number_of routes.extents target) 0) (get_or routes.node_of (2 * number_of routes.extents target + 1) 0) strict node →
    first_chain set.list source target strict ≡ chain_at routes.nodes node
end_computed set source routes of target strict zero in_target picked =
    sym (none_computed set.list source target strict (chain_none set source routes of target strict 0 in_target picked refl))
end_computed set source routes of target strict (suc n) in_target picked =
    sym (some_computed set.list source target strict (chain_of routes.nodes (suc n)) (chain_is set source routes of target strict (suc n) in_target picked (omega arith)))

-- what the node of the end says
pub ends_at : (o : Option (List ℕ)) (nodes : List Node) (node : ℕ) → 0 < node → o ≡ chain_at nodes node → o ≡ Some (chain_of nodes node)
ends_at o nodes zero some e = absurd (omega arith)
ends_at o nodes (suc n) some e = e

pub ends_nowhere : (o : Option (List ℕ)) (nodes : List Node) (node : ℕ) → node ≡ 0 → o ≡ chain_at nodes node → o ≡ None
ends_nowhere o nodes node none e = e ∙ ap (chain_at nodes) none

pub no_chain : (orders : List Order) (x y : Point) (strict : Bool) → first_chain orders x y strict ≡ None → (ns : List ℕ) → IsChain orders x y ns →
    (strict ≡ true → shows_strict orders ns ≡ true) → ⊥
no_chain orders x y strict none ns chain shows =
    let P : Option (List ℕ) → Type 0 = λ o. IsSome o in
    absurd (true≢false (sym (subst P none (chain_there orders x y strict ns chain shows))))
