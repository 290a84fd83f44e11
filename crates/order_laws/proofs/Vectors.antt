use Rattle.std.proofs.Common.{◌≡◌, ℕ, ℤ, pos, List, [], ◌∷◌, true, false, refl}
use Rattle.std.specs.Prelude.{Option, Some, None}
use Rattle.order_laws.specs.declared.Order.{Order}
use Rattle.order_laws.specs.declared.Point.{Point}
use Rattle.order_laws.specs.declared.Point.TheVariants.{Start, End, Date}
use Rattle.order_laws.specs.declared.By.TheVariants.{Triple, Extent, Dates}
use Rattle.order_laws.specs.declared.Position.{Position}
use Rattle.order_laws.specs.declared.Reach.TheVariants.{None as Nothing, Le, Lt}
use Rattle.order_laws.specs.Closure.{reach_between, first_strict_loop, has_strict_loop}
use Rattle.order_laws.specs.ChainSearch.{chain_of, first_chain, first_cycle}
use Rattle.order_laws.specs.Wider.{plain_placing, delaying_placing}

abbrev le : Point → Point → Order
le x y = record { low = x; high = y; strict = false; by = Triple 0 }

abbrev lt : Point → Point → Order
lt x y = record { low = x; high = y; strict = true; by = Triple 0 }

abbrev at : ℕ → ℕ → Position
at i r = record { instant = pos i; rank = r }

abbrev row1 : List Order
row1 = le (End 0) (Start 1) ∷ lt (Start 0) (End 0) ∷ lt (Start 1) (End 1) ∷ []

abbrev row4 : List Order
row4 = le (Start 0) (Start 1) ∷ le (Start 1) (Start 0) ∷ lt (Start 0) (End 0) ∷ lt (Start 1) (End 1) ∷ []

abbrev row5 : List Order
row5 = lt (End 0) (Start 1) ∷ lt (End 1) (Start 2) ∷ lt (End 2) (Start 0) ∷ lt (Start 0) (End 0) ∷ lt (Start 1) (End 1) ∷ lt (Start 2) (End 2) ∷ []

abbrev row7 : List Order
row7 = le (Date 1) (Start 0) ∷ le (Start 0) (Date 0) ∷ lt (Start 0) (End 0) ∷ lt (Date 0) (Date 1) ∷ []

row1_plain : plain_placing row1 2 [] ≡ at 0 0 ∷ at 0 1 ∷ at 0 1 ∷ at 0 3 ∷ []
row1_plain = refl

row1_delay : delaying_placing row1 2 [] (Start 1) ≡ at 0 0 ∷ at 0 1 ∷ at 0 2 ∷ at 0 3 ∷ []
row1_delay = refl

row1_p173 : chain_of row1 (Start 0) (End 1) ≡ Some (1 ∷ 0 ∷ 2 ∷ [])
row1_p173 = refl

row1_p182 : chain_of row1 (End 0) (Start 1) ≡ Some (0 ∷ [])
row1_p182 = refl

row1_p184 : chain_of row1 (End 0) (End 1) ≡ Some (0 ∷ 2 ∷ [])
row1_p184 = refl

row1_none : chain_of row1 (End 1) (Start 0) ≡ None
row1_none = refl

row1_reach : reach_between row1 (End 0) (Start 1) ≡ Le
row1_reach = refl

row3_cycle : first_cycle (lt (Start 0) (Start 0) ∷ lt (Start 0) (End 0) ∷ []) 1 0 ≡ Some (0 ∷ [])
row3_cycle = refl

row4_plain : plain_placing row4 2 [] ≡ at 0 0 ∷ at 0 2 ∷ at 0 0 ∷ at 0 2 ∷ []
row4_plain = refl

row4_delay : delaying_placing row4 2 [] (End 0) ≡ at 0 0 ∷ at 0 3 ∷ at 0 0 ∷ at 0 2 ∷ []
row4_delay = refl

row4_chain : chain_of row4 (Start 1) (End 0) ≡ Some (1 ∷ 2 ∷ [])
row4_chain = refl

row5_cycle : first_cycle row5 3 0 ≡ Some (3 ∷ 0 ∷ 4 ∷ 1 ∷ 5 ∷ 2 ∷ [])
row5_cycle = refl

row7_cycle : first_cycle row7 1 2 ≡ Some (1 ∷ 3 ∷ 0 ∷ [])
row7_cycle = refl
