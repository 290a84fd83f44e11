-- A step of a walk.
use Rattle.std.proofs.Common.{◌≡◌, ℕ, ◌+◌, ◌-◌, ◌<◌, true, Option, Some, None, List, ◌∷◌, length, arith, sym, ap, subst, ◌∙◌, IfSome}
use Rattle.std.proofs.lemmas.Bool.{and_parts}
use Rattle.rdf_terms.specs.declared.terms.Term.{Term}
use Rattle.triple_pool.specs.declared.Place.{Place}
use Rattle.triple_pool.specs.declared.Slot.{Slot}
use Rattle.triple_pool.specs.Pool.{has_term}
use Rattle.triple_pool.specs.Chains.{slot_at, links_at, is_at, listed_at, IsFirstFrom, IsLinked}
use Rattle.triple_pool.specs.Walks.{IsWalking}
use Rattle.triple_pool.proofs.Chaining.{at_past, at_key, held_in}
use Rattle.triple_pool.proofs.Listing.{listed_first}

-- the next number of one on the chain
pub next_on : (place : Place) (slots : List Slot) (term : Term) (i : ℕ) → IsLinked place slots → is_at place term slots i ≡ true →
    IsFirstFrom (is_at place term slots) (i + 1) (links_at place (slot_at slots i)).next
next_on place slots term i linked on =
    let parts = and_parts (slot_at slots i).held (has_term place term (slot_at slots i).triple) on in
    subst (λ (u : Term). IsFirstFrom (is_at place u slots) (i + 1) (links_at place (slot_at slots i)).next) (at_key place term slots i on) (linked.next i parts.0)

pub walked : (place : Place) (slots : List Slot) (term : Term) (i : ℕ) (at next : Option ℕ) (now : List ℕ) →
    IsWalking place slots term at → at ≡ Some i → listed_at (is_at place term slots) (length slots) at ≡ now →
    next ≡ (links_at place (slot_at slots i)).next → now ≡ i ∷ listed_at (is_at place term slots) (length slots) next
walked place slots term i at next now w is from to =
    let on : is_at place term slots i ≡ true = subst (λ (o : Option ℕ). IfSome o (λ j. is_at place term slots j ≡ true)) is w.on_chain in
    let within : i < length slots = held_in slots i (and_parts (slot_at slots i).held (has_term place term (slot_at slots i).triple) on).0 in
    let all : (i + 1) + (length slots - (i + 1)) ≡ length slots = omega arith in
    sym from
    ∙ ap (listed_at (is_at place term slots) (length slots)) is
    ∙ ap (λ (r : List ℕ). i ∷ r)
    (listed_first (is_at place term slots) (i + 1) (length slots - (i + 1)) (links_at place (slot_at slots i)).next
    (next_on place slots term i w.linked on) (λ k l. at_past place term slots k (omega arith))
    ∙ ap (λ (n : ℕ). listed_at (is_at place term slots) n (links_at place (slot_at slots i)).next) all
    ∙ ap (listed_at (is_at place term slots) (length slots)) (sym to))

-- what comes next on the chain is on it
pub walking_on : (place : Place) (slots : List Slot) (term : Term) (o : Option ℕ) (from : ℕ) → IsFirstFrom (is_at place term slots) from o →
    IfSome o (λ j. is_at place term slots j ≡ true)
walking_on place slots term None from h = tt
walking_on place slots term (Some j) from h = h.1
