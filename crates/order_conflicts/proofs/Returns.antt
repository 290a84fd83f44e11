-- Layers along paths.
use Rattle.std.proofs.Common.{◌≡◌, ℕ, List, [], ◌∷◌, ◌≤◌, get_or, arith, ap}
use Rattle.order_core.specs.Sets.{Orders}
use Rattle.order_conflicts.specs.Paths.{AreLayers, IsPath, IsReturn, high_of, low_of}

module _ (set : Orders) (t points : ℕ) (layers : List ℕ) (of : AreLayers set t points layers) where
  pub layers_fall : (x y : ℕ) (ns : List ℕ) → IsPath set t x y ns → get_or layers y 0 ≤ get_or layers x 0
  layers_fall x y [] p = omega (arith, ap (λ z. get_or layers z 0) p)
  layers_fall x y (n ∷ ns) p =
      omega (arith, layers_fall (high_of set n) y ns p.2, of.falls n p.0, ap (λ z. get_or layers z 0) p.1)

  -- the ends of an order with a way back have one layer
  pub one_layer : (n : ℕ) → IsReturn set t n → get_or layers (low_of set n) 0 ≡ get_or layers (high_of set n) 0
  one_layer n r = omega (arith, layers_fall (high_of set n) (low_of set n) r.2.0 r.2.1, of.falls n r.0)
