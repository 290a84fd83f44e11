-- What a walk keeps.
use Rattle.std.specs.Prelude.{ℕ, ◌≡◌, true, Option, List, IfSome}
use Rattle.rdf_terms.specs.declared.terms.Term.{Term}
use Rattle.triple_pool.specs.declared.Place.{Place}
use Rattle.triple_pool.specs.declared.Slot.{Slot}
use Rattle.triple_pool.specs.Chains.{IsLinked, is_at}

-- the records are linked, and the number that comes next has the term
pub record IsWalking (place : Place) (slots : List Slot) (term : Term) (at : Option ℕ) : Type 0 where
  pub linked : IsLinked place slots
  pub on_chain : IfSome at (λ i. is_at place term slots i ≡ true)
