-- Orders that are renamed one after another.
use Rattle.std.proofs.Common.{◌≡◌, ℕ, List, [], ◌∷◌, ◌++◌, ◌+◌, ◌<◌, length, map, take, ap, ◌∙◌}
use Rattle.std.proofs.lemmas.List.{take_more, map-append}
use Rattle.order_laws.specs.declared.Order.{Order}
use Rattle.order_laws.specs.Chains.{order_at, no_order}
use Rattle.dating_bounds.specs.Dated.{renamed}

pub renamed_more : (at : ℕ) (list : List Order) (n : ℕ) → n < length list →
    map (renamed at) (take (n + 1) list) ≡ map (renamed at) (take n list) ++ renamed at (order_at list n) ∷ []
renamed_more at list n h = ap (map (renamed at)) (take_more list n no_order h) ∙ map-append (renamed at) (take n list) (order_at list n ∷ [])
