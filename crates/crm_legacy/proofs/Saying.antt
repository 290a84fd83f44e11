-- What replaces a legacy property has the orders of its relation, in another sequence at most.
use Rattle.std.proofs.Common.{◌≡◌, zero, suc, ℕ, ℤ, ◌<◌, Bool, true, false, List, [], ◌∷◌, length, arith}
use Rattle.std.specs.Prelude.{◌↔◌}
use Rattle.order_laws.specs.declared.Order.{Order}
use Rattle.order_laws.specs.declared.Position.{Position}
use Rattle.order_laws.specs.Placings.{IsSatisfied}
use Rattle.crm_legacy.specs.declared.legacy.LegacyProperty.{LegacyProperty}
use Rattle.crm_legacy.specs.declared.legacy.LegacyProperty.TheVariants.{P114, P115, P116, P117, P118, P119, P120}
use Rattle.crm_legacy.specs.Meaning.{legacy_orders, replaced_orders}

module _ (dates : List ℤ) (placing : List Position) where
  -- the last two of three in the other sequence
  swapped : (o p q : Order) → IsSatisfied (o ∷ p ∷ q ∷ []) dates placing → IsSatisfied (o ∷ q ∷ p ∷ []) dates placing
  swapped o p q h zero lt = h 0 (omega arith)
  swapped o p q h (suc zero) lt = h 2 (omega arith)
  swapped o p q h (suc (suc zero)) lt = h 1 (omega arith)
  swapped o p q h (suc (suc (suc n))) lt = absurd (omega (arith, lt))

  pub said_alike : (property : LegacyProperty) (inverse : Bool) (a b : ℕ) →
      IsSatisfied (replaced_orders property inverse a b) dates placing ↔ IsSatisfied (legacy_orders property inverse a b) dates placing
  said_alike P114 false a b = ((λ h. h), (λ h. h))
  said_alike P114 true a b = ((λ h. h), (λ h. h))
  said_alike P115 false a b = (swapped _ _ _, swapped _ _ _)
  said_alike P115 true a b = (swapped _ _ _, swapped _ _ _)
  said_alike P116 false a b = ((λ h. h), (λ h. h))
  said_alike P116 true a b = ((λ h. h), (λ h. h))
  said_alike P117 false a b = ((λ h. h), (λ h. h))
  said_alike P117 true a b = ((λ h. h), (λ h. h))
  said_alike P118 false a b = ((λ h. h), (λ h. h))
  said_alike P118 true a b = ((λ h. h), (λ h. h))
  said_alike P119 false a b = ((λ h. h), (λ h. h))
  said_alike P119 true a b = ((λ h. h), (λ h. h))
  said_alike P120 false a b = ((λ h. h), (λ h. h))
  said_alike P120 true a b = ((λ h. h), (λ h. h))
